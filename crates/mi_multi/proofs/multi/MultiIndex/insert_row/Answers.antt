-- The first refusal that applies is answered; else the record comes in.
use Rattle.std.proofs.Common.{ap, sym, ◌∙◌}
use Rattle.mi_container.specs.Data.{as_table}
use Rattle.mi_container.specs.Run.Change.{Insert}
use Rattle.mi_container.proofs.LawLemmas.{change_is_tables}
use Rattle.mi_multi.proofs.AcceptLemmas.{insert_refused, insert_meets}
use Rattle.mi_multi.proofs.multi.MultiIndex.insert_row.Goals as goal

pub returns-in-Some-clause-outcome : goal.returns-in-Some-clause-outcome
returns-in-Some-clause-outcome c = insert_refused c.args.self.now.shape c.args.before c.args.row
    (as_table c.args.self.now.plain) c.in-Some.refusal (sym c.insert_refusal.ensures ∙ c.in-Some.is)

pub insert_accepted-requires-clause-accepted : goal.insert_accepted-requires-clause-accepted
insert_accepted-requires-clause-accepted c = sym c.insert_refusal.ensures ∙ c.in_default.is

pub returns-in-Ok-clause-outcome : goal.returns-in-Ok-clause-outcome
returns-in-Ok-clause-outcome c =
    let now = c.args.self.now in
    let made = c.in-Ok.ensures.made in
    let table = ap as_table made.1.changed_data
    ∙ (change_is_tables now.shape (Insert c.args.before made.0 c.args.row) now.plain c.keeps_rules.ensures made.1.allowed).1 in
    insert_meets now.shape c.args.before c.args.row (as_table now.plain) c.in-Ok.inserted.id
    (as_table c.insert_accepted.new.self.plain) (sym c.insert_refusal.ensures ∙ c.in_default.is) c.in-Ok.ensures.id table
