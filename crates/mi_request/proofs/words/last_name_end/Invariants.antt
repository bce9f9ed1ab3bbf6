-- The bytes passed so far are those of a name.
use Rattle.std.proofs.Common.{◌≡◌, ◌+◌, ◌-◌, ◌≤◌, length, drop}
use Rattle.std.specs.List.{prefix_len}
use Rattle.mi_request.specs.Short.{is_name_byte}
use Rattle.mi_request.proofs.words.last_name_end.Given as goal

abbrev pub invariant-bytes : goal.invariant-bytes
invariant-bytes l = (l.from + prefix_len is_name_byte (drop l.from l.text) ≡ l.at + prefix_len is_name_byte (drop l.at l.text)) × (l.at ≤ length l.text)

abbrev pub decreases-bytes : goal.decreases-bytes
decreases-bytes l = length l.text - l.at
