-- Texts put one behind another.
-- Cited by `output::end_line` and `reply::put_conflict`.
use Rattle.std.proofs.Common.{◌≡◌, ℕ, ◌<◌, List, [], ◌∷◌, ◌++◌, length, take, ap, sym, ◌∙◌, arith, take-take, take_at, length-take-le}
use Rattle.json.specs.Filled.{Placed}
use Rattle.json.proofs.Printed.Places.{Placed-then}

-- three texts, then one, and then one more
pub placed_five : (old one two new : List ℕ) (at begun end last : ℕ) (a b c d e : List ℕ) → Placed old one at (a ++ b ++ c) begun → Placed one two begun d end
    → Placed two new end e last → Placed old new at (a ++ b ++ c ++ d ++ e) last
placed_five old one two new at begun end last a b c d e p q r = Placed-then (Placed-then p q) r

-- what stands before a byte that is put stays
pub text_kept : (one new : List ℕ) (b end last : ℕ) → end < length one → Placed one new end (b ∷ []) last → take end new ≡ take end one
text_kept one new b end last within q =
    sym (take-take end last new (omega (arith, q.moved))) ∙ ap (take end) q.bytes ∙ take_at (take end one) (b ∷ []) end (length-take-le end one (omega (arith, within)))
