-- the row is there: it is moved to the end, and what would take that back is let go
use Rattle.std.proofs.Common.{[], ap, sym, ◌∙◌}
use Rattle.std.proofs.lemmas.Bool.{false≢true}
use Rattle.std.specs.declared.option.Option.TheVariants.{None}
use Rattle.mi_container.specs.Changes.{relocated_in}
use Rattle.mi_container.proofs.InvariantLemmas.{has_there}
use Rattle.mi_multi.proofs.multi.MultiIndex.move_last.Goals as goal

pub returns-in_default-clause-plain : goal.returns-in_default-clause-plain
returns-in_default-clause-plain c =
    absurd (false≢true (sym (c.live_row.ensures.absent c.in_default.is) ∙ has_there c.args.self.now.plain c.args.id c.requires.row))

pub returns-in-Some-clause-plain : goal.returns-in-Some-clause-plain
returns-in-Some-clause-plain c =
    (c.move_row-moved.ensures.made []).changed_data ∙ ap (λ e. relocated_in c.args.index e None c.args.self.now.plain) c.in-Some.ensures.id
