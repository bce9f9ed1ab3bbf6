use Rattle.std.proofs.Common.{◌+◌, ◌-◌, ◌≤◌, length, take}
use Rattle.json.specs.Filled.{Placed}
use Rattle.mi_print.proofs.place.put_long.Given as goal

-- the first bytes are put, and sixteen or more are left
abbrev pub invariant-sixteens : goal.invariant-sixteens
invariant-sixteens l = (l.done + 16 ≤ length l.src) × Placed l.fn.buf l.buf l.at (take l.done l.src) (l.at + l.done)

abbrev pub decreases-sixteens : goal.decreases-sixteens
decreases-sixteens l = length l.src - l.done
