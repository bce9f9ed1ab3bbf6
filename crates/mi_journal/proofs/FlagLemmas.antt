-- How many truth values a number is seen as.
-- Cited by `Marks::keeps_rules`.
use Rattle.std.proofs.Common.{◌≡◌, ℕ, zero, suc, ◌/◌, length, refl, ap}
use Rattle.mi_journal.specs.Flags.{flags}

pub length-flags : (count bits : ℕ) → length (flags count bits) ≡ count
length-flags zero bits = refl
length-flags (suc count) bits = ap suc (length-flags count (bits / 2))
