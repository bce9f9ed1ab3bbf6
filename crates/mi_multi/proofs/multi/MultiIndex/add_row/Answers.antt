-- The id may be the next one, and the row is then inserted.
use Rattle.std.proofs.Common.{◌≡◌, ap, sym, ◌∙◌, subst}
use Rattle.std.specs.declared.option.Option.TheVariants.{None}
use Rattle.mi_container.specs.Data.{Data, IsData}
use Rattle.mi_container.specs.Changes.{inserted}
use Rattle.mi_container.proofs.RestoreLemmas.{next_data, row_added}
use Rattle.mi_multi.specs.Seen.{Seen}
use Rattle.mi_multi.proofs.multi.MultiIndex.add_row.Goals as goal

pub set_counters-requires-clause-data : goal.set_counters-requires-clause-data
set_counters-requires-clause-data c =
    let d = c.args.self.now.plain in
    subst (λ a. IsData c.args.self.now.shape (record d { next = c.args.id; arrivals = a })) (sym (ap (λ (w : Seen). w.plain.arrivals) c.set_counters.view_is))
    (next_data c.args.self.now.shape d c.args.id c.keeps_rules.ensures c.requires.kept c.requires.id)

pub returns-in-Ok-clause-added : goal.returns-in-Ok-clause-added
returns-in-Ok-clause-added c rows has_rows =
    let d = c.args.self.now.plain in
    let made = c.in-Ok.ensures.made in
    let at : c.set_counters-2.new.self.plain ≡ record d { next = c.args.id } =
    c.set_counters-2.ensures.plain
    ∙ ap (λ a. record d { next = c.args.id; arrivals = a }) (ap (λ (w : Seen). w.plain.arrivals) c.set_counters.view_is) in
    row_added c.args.self.now.shape rows d c.insert_accepted.new.self.plain c.args.id c.args.row made.0 has_rows
    (next_data c.args.self.now.shape d c.args.id c.keeps_rules.ensures c.requires.kept c.requires.id)
    (made.1.changed_data ∙ ap (λ (q : Data). inserted None made.0 c.args.row q) at)
