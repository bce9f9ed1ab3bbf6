-- By the direction.
use Rattle.std.proofs.Common.{ap, sym, ◌∙◌}
use Rattle.std.specs.Prelude.{slice_get}
use Rattle.mi_plain.specs.Boundary.{begun}
use Rattle.mi_plain.proofs.table.PlainTable.begin.Goals as goal

pub returns-then-reverse : goal.returns-then-reverse
returns-then-reverse c =
    c.last_to.ensures
    ∙ ap (λ r. slice_get (begun c.args.schema.now c.args.self.now c.args.x c.args.lower.now c.args.upper.now r) 0) (sym c.if-reverse.true)

pub returns-else-reverse : goal.returns-else-reverse
returns-else-reverse c =
    c.first_from.ensures
    ∙ ap (λ r. slice_get (begun c.args.schema.now c.args.self.now c.args.x c.args.lower.now c.args.upper.now r) 0) (sym c.if-reverse.false)
