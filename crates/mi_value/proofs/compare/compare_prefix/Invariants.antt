-- what the values that are left say is what all of them say
use Rattle.std.proofs.Common.{◌≡◌, drop}
use Rattle.mi_value.specs.Order as order
use Rattle.mi_value.proofs.compare.compare_prefix.Given as goal

abbrev pub invariant-loop-i : goal.invariant-loop-i
invariant-loop-i l = order.compare_prefix (drop l.i l.parts) (drop l.i l.key) l.row ≡ order.compare_prefix l.parts l.key l.row
