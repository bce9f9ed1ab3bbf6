-- One number more in a range.
-- Cited by `lost::dropped` and `LostLemmas`.
use Rattle.std.proofs.Common.{◌≡◌, ℕ, zero, suc, ◌+◌, List, [], ◌∷◌, ◌++◌, refl, sym, ap, ◌∙◌, append_assoc, arith}
use Rattle.std.specs.List.{flat_map, range_with_len}
use Rattle.std.proofs.lemmas.Grind.{flat_map-append}

range_more : (a n : ℕ) → range_with_len a (suc n) ≡ range_with_len a n ++ (a + n) ∷ []
range_more a zero = let sum : a ≡ a + 0 = omega arith in ap (λ k. k ∷ []) sum
range_more a (suc n) =
    let sum : (a + 1) + n ≡ a + suc n = omega arith in
    ap (λ ks. a ∷ ks) (range_more (a + 1) n ∙ ap (λ k. range_with_len (a + 1) n ++ k ∷ []) sum)

append_none : {X : Type 0} (xs : List X) → xs ++ [] ≡ xs
append_none [] = refl
append_none (x ∷ xs) = ap (λ ys. x ∷ ys) (append_none xs)

-- what one number more adds
pub flat_map_more : {X : Type 0} (f : ℕ → List X) (n : ℕ) → flat_map f (range_with_len 0 (n + 1)) ≡ flat_map f (range_with_len 0 n) ++ f n
flat_map_more f n =
    let more : n + 1 ≡ suc n = omega arith in
    let last : 0 + n ≡ n = omega arith in
    ap (λ k. flat_map f (range_with_len 0 k)) more
    ∙ ap (flat_map f) (range_more 0 n)
    ∙ flat_map-append f (range_with_len 0 n) ((0 + n) ∷ [])
    ∙ ap (λ ys. flat_map f (range_with_len 0 n) ++ ys) (append_none (f (0 + n)))
    ∙ ap (λ k. flat_map f (range_with_len 0 n) ++ f k) last

-- a loop's step: what is there, and what one number more adds
pub one_more : {X : Type 0} (f : ℕ → List X) (n : ℕ) (made before base : List X) → made ≡ before ++ f n → before ≡ base ++ flat_map f (range_with_len 0 n)
    → made ≡ base ++ flat_map f (range_with_len 0 (n + 1))
one_more f n made before base e kept =
    e ∙ ap (λ xs. xs ++ f n) kept ∙ append_assoc base (flat_map f (range_with_len 0 n)) (f n) ∙ sym (ap (λ ys. base ++ ys) (flat_map_more f n))

pub one_more_alone : {X : Type 0} (f : ℕ → List X) (n : ℕ) (made before : List X) → made ≡ before ++ f n → before ≡ flat_map f (range_with_len 0 n)
    → made ≡ flat_map f (range_with_len 0 (n + 1))
one_more_alone f n made before e kept = e ∙ ap (λ xs. xs ++ f n) kept ∙ sym (flat_map_more f n)
