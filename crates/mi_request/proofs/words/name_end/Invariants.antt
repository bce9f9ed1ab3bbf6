-- The bytes passed so far are those of a name.
use Rattle.std.proofs.Common.{◌≡◌, ◌+◌, ◌-◌, ◌≤◌, length, drop}
use Rattle.std.specs.List.{prefix_len}
use Rattle.mi_request.specs.Short.{is_name_byte}
use Rattle.mi_request.proofs.words.name_end.Given as goal

abbrev pub invariant-sixteens : goal.invariant-sixteens
invariant-sixteens l = (prefix_len is_name_byte l.text ≡ l.at + prefix_len is_name_byte (drop l.at l.text)) × (l.at ≤ length l.text)

abbrev pub decreases-sixteens : goal.decreases-sixteens
decreases-sixteens l = length l.text - l.at
