use Rattle.std.proofs.Common.{◌≡◌}
use Rattle.mi_node.specs.Columns.{cleared}
use Rattle.mi_node.proofs.columns.clear.Given as goal

abbrev pub invariant-loop-slot : goal.invariant-loop-slot
invariant-loop-slot l = l.columns.items ≡ cleared l.slot l.place l.initial.columns.items
