-- The bytes passed so far are digits, at most eighteen, and what they write is known.
use Rattle.std.proofs.Common.{◌≡◌, ◌+◌, ◌-◌, ◌^◌, ◌<◌, ◌≤◌, length, drop}
use Rattle.std.specs.List.{prefix_len}
use Rattle.std.specs.Char.{is_ascii_digit}
use Rattle.std.specs.Str.Parse.{digits_value, digits_value_after}
use Rattle.mi_tokens.proofs.WholeLemmas.{run}
use Rattle.mi_tokens.proofs.lexemes.digits.Given as goal

abbrev pub invariant-digits : goal.invariant-digits
invariant-digits l =
    (l.from + prefix_len is_ascii_digit (drop l.from l.text) ≡ l.at + prefix_len is_ascii_digit (drop l.at l.text))
    × (l.at ≤ length l.text) × (l.from ≤ l.at) × (l.at ≤ l.from + 18) × (l.n < 10 ^ (l.at - l.from))
    × (digits_value_after 10 l.n (run (drop l.at l.text)) ≡ digits_value 10 (run (drop l.from l.text)))

abbrev pub decreases-digits : goal.decreases-digits
decreases-digits l = length l.text - l.at
