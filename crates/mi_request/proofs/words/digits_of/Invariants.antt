-- The bytes passed so far are digits, and what they write.
use Rattle.std.proofs.Common.{◌≡◌, ◌+◌, ◌-◌, ◌^◌, ◌<◌, ◌≤◌, length, drop, take}
use Rattle.std.specs.Char.{is_ascii_digit}
use Rattle.std.specs.List.{prefix_len}
use Rattle.std.specs.Str.Parse.{digits_value}
use Rattle.mi_request.proofs.words.digits_of.Given as goal

abbrev pub invariant-digits : goal.invariant-digits
invariant-digits l =
    (prefix_len is_ascii_digit l.text ≡ l.at + prefix_len is_ascii_digit (drop l.at l.text)) × (l.at ≤ length l.text) × (l.at ≤ 19)
    × (l.n < 10 ^ l.at) × (l.n ≡ digits_value 10 (take l.at l.text))

abbrev pub decreases-digits : goal.decreases-digits
decreases-digits l = length l.text - l.at
