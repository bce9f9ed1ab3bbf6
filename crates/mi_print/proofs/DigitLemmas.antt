-- The digits of numbers, two at a time: those of the table, and those of a number behind its hundreds or its ten thousands.
-- Cited by `number::+put_large` and `number::put_pair`.
use Rattle.std.proofs.Common.{◌≡◌, ℕ, zero, suc, ◌+◌, ◌-◌, ◌*◌, ◌/◌, ◌%◌, ◌^◌, ◌<◌, ◌≤◌, Bool, true, ◌&&◌, T, eqb, [], ◌∷◌, length, take, drop, get_or, ap, ap₂, ◌∙◌, inl, inr, arith, eq-zero-or-pos, eqb→eq}
use Rattle.std.proofs.lemmas.Fmt.{length-decimal-le}
use Rattle.std.proofs.lemmas.List.{drop_more}
use lib.Ieee.Fits.{and_l, and_r}
use Rattle.std.specs.Fmt.{decimal}
use Rattle.mi_print.specs.declared.number.TheConstants.{PAIRS}

abbrev are_pairs : ℕ → Bool
are_pairs zero = true
are_pairs (suc p) = (eqb (get_or PAIRS (p * 2) 0) (48 + p / 10) && eqb (get_or PAIRS (p * 2 + 1) 0) (48 + p % 10)) && are_pairs p

below : (n p : ℕ) → T (are_pairs n) → p < n → (get_or PAIRS (p * 2) 0 ≡ 48 + p / 10) × (get_or PAIRS (p * 2 + 1) 0 ≡ 48 + p % 10)
below zero p t h = absurd (omega arith)
below (suc n) p t h =
    elim (eq-zero-or-pos (n - p)) [
      | inl z ↦ let e : p ≡ n = omega arith in let a = and_l _ (are_pairs n) t in rw e (eqb→eq _ _ (and_l _ _ a), eqb→eq _ _ (and_r _ _ a))
      | inr g ↦ below n p (and_r _ (are_pairs n) t) (omega arith)
    ]

-- what the table has of a number
pub pair_at : (p : ℕ) → p < 100 → (get_or PAIRS (p * 2) 0 ≡ 48 + p / 10) × (get_or PAIRS (p * 2 + 1) 0 ≡ 48 + p % 10)
pair_at p h = below 100 p tt h

pub two_at : (p : ℕ) → p < 100 → take 2 (drop (p * 2) PAIRS) ≡ (48 + p / 10) ∷ (48 + p % 10) ∷ []
two_at p h =
    let digits = pair_at p h in
    ap (take 2) (drop_more PAIRS (p * 2) 0 (omega arith)
    ∙ ap₂ (λ d ds. d ∷ ds) digits.0 (drop_more PAIRS (p * 2 + 1) 0 (omega arith) ∙ ap (λ d. d ∷ drop (p * 2 + 1 + 1) PAIRS) digits.1))

-- no number of 64 bits has more than twenty digits
pub twenty : (n : ℕ) → n < 2 ^ 64 → length (decimal n) ≤ 20
twenty n fits = length-decimal-le 20 n (omega arith) (omega arith) (omega arith)
