-- The bytes passed so far are plain.
use Rattle.std.proofs.Common.{◌≡◌, ◌+◌, ◌-◌, ◌≤◌, length, drop}
use Rattle.std.specs.List.{prefix_len}
use Rattle.json.specs.Run.{is_plain}
use Rattle.mi_tokens.proofs.plain.plain_end.Given as goal

abbrev pub invariant-sixteens : goal.invariant-sixteens
invariant-sixteens l = (l.from + prefix_len is_plain (drop l.from l.text) ≡ l.at + prefix_len is_plain (drop l.at l.text)) × (l.at ≤ length l.text)

abbrev pub decreases-sixteens : goal.decreases-sixteens
decreases-sixteens l = length l.text - l.at
