use Rattle.std.proofs.Common.{◌-◌, ◌≤◌, length}
use Rattle.json.specs.Written.{PlainBetween}
use Rattle.mi_print.proofs.plain.plain_long.Given as goal

abbrev pub invariant-sixteens : goal.invariant-sixteens
invariant-sixteens l = (l.at ≤ length l.text) × PlainBetween l.text 0 l.at

abbrev pub decreases-sixteens : goal.decreases-sixteens
decreases-sixteens l = length l.text - l.at
