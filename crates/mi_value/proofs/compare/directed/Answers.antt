-- A descending part turns the comparison round, any other leaves it.
use Rattle.std.proofs.Common.{ap, sym, ◌∙◌}
use Rattle.mi_value.specs.Order as order
use Rattle.mi_value.proofs.compare.directed.Goals as goal

pub returns-then-descending : goal.returns-then-descending
returns-then-descending c = c.reverse.ensures ∙ ap (λ b. order.directed b c.args.o) (sym c.if-descending.true)

pub returns-else-descending : goal.returns-else-descending
returns-else-descending c = ap (λ b. order.directed b c.args.o) (sym c.if-descending.false)
