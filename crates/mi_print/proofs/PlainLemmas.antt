-- From the lanes of a vector to a text whose ends they are.
-- Cited by `plain::are_plain_16`, `plain::are_plain_8`, `plain::plain_16`, `plain::plain_by_4` and `plain::plain_by_8`.
use Rattle.std.proofs.Common.{◌≡◌, ℕ, zero, suc, ◌+◌, ◌-◌, ◌<◌, ◌≤◌, Bool, true, false, List, [], ◌∷◌, ◌++◌, length, take, drop, get_or, map, refl, sym, ap, ◌∙◌, arith, inl, inr, eq-zero-or-pos, Fits, w8, length-append, take_all, length-take-le, get_or-take, get_or-drop}
use Rattle.std.specs.Bool.{OnTrue}
use Rattle.std.specs.List.{range_with_len}
use Rattle.std.proofs.lemmas.List.{drop_more, get_or_append_left, get_or-append_right}
use lib.Lanes.{Each1}
use Rattle.json.specs.Run.{is_plain}
use Rattle.json.specs.Written.{PlainBetween}

pub all_fit : (xs : List ℕ) → Each1 (Fits w8) xs → (k : ℕ) → Fits w8 (get_or xs k 0)
all_fit [] fits k = record { fits = omega arith }
all_fit (x ∷ xs) fits zero = fits.0
all_fit (x ∷ xs) fits (suc k) = all_fit xs fits.1 k

-- lanes that are picked one after another
picked : (xs : List ℕ) (d a n : ℕ) → a + n ≤ length xs → map (λ k. get_or xs k d) (range_with_len a n) ≡ take n (drop a xs)
picked xs d a zero h = refl
picked xs d a (suc n) h =
    ap (λ t. get_or xs a d ∷ t) (picked xs d (a + 1) n (omega arith)) ∙ sym (ap (take (suc n)) (drop_more xs a d (omega arith)))

-- two vectors of n lanes whose lanes are picked, those of the one before those of the other
pub both_picked : (n : ℕ) (xs ys : List ℕ) → length xs ≡ n → length ys ≡ n
    → map (λ k. get_or (xs ++ ys) k 0) (range_with_len 0 (n + n)) ≡ xs ++ ys
both_picked n xs ys long as_long =
    let all = length-append xs ys in
    picked (xs ++ ys) 0 0 (n + n) (omega (arith, all, long, as_long)) ∙ take_all (n + n) (xs ++ ys) (omega (arith, all, long, as_long))

on_true : (b : Bool) (P Q : Type 0) → (P → Q) → OnTrue b P → OnTrue b Q
on_true true P Q f h = f h
on_true false P Q f h = tt

-- the bytes from a place on, as a text of their own
pub part_plain : (b : Bool) (d : List ℕ) (i n : ℕ) → OnTrue b (PlainBetween (take n (drop i d)) 0 n) → OnTrue b (PlainBetween d i (i + n))
part_plain b d i n = on_true b _ _ (λ plain k from there.
    let back : i + (k - i) ≡ k = omega arith in
    ap is_plain (sym (get_or-take n (drop i d) (k - i) 0 (omega arith) ∙ get_or-drop i d (k - i) 0 ∙ ap (λ j. get_or d j 0) back))
    ∙ plain (k - i) (omega arith) (omega arith))

front_plain : (n : ℕ) (d ys : List ℕ) (k : ℕ) → n ≤ length d → k < n → get_or (take n d ++ ys) k 0 ≡ get_or d k 0
front_plain n d ys k within below_n =
    get_or_append_left (take n d) ys 0 k (omega (arith, length-take-le n d within)) ∙ get_or-take n d k 0 below_n

back_plain : (n m : ℕ) (d : List ℕ) (k : ℕ) → n ≤ length d → m + n ≡ length d → m ≤ n → n ≤ k → k < length d
    → get_or (take n d ++ take n (drop m d)) (n + (k - m)) 0 ≡ get_or d k 0
back_plain n m d k within last few behind there =
    let skipped : n + (k - m) - n ≡ k - m = omega arith in
    let back : m + (k - m) ≡ k = omega arith in
    get_or-append_right (take n d) (take n (drop m d)) n (n + (k - m)) 0 (length-take-le n d within) (omega arith)
    ∙ ap (λ i. get_or (take n (drop m d)) i 0) skipped
    ∙ get_or-take n (drop m d) (k - m) 0 (omega arith) ∙ get_or-drop m d (k - m) 0 ∙ ap (λ i. get_or d i 0) back

both_plain : (n m : ℕ) (d : List ℕ) → n ≤ length d → m + n ≡ length d → m ≤ n
    → PlainBetween (take n d ++ take n (drop m d)) 0 (n + n) → PlainBetween d 0 (length d)
both_plain n m d within last few plain k from there =
    elim (eq-zero-or-pos (n - k)) [
      | inl back ↦ ap is_plain (sym (back_plain n m d k within last few (omega arith) there)) ∙ plain (n + (k - m)) (omega arith) (omega arith)
      | inr front ↦ ap is_plain (sym (front_plain n d (take n (drop m d)) k within (omega arith))) ∙ plain k (omega arith) (omega arith)
    ]

-- the first n bytes and the last n are all of a text that has n to 2 n
pub ends_plain : (b : Bool) (n m : ℕ) (d : List ℕ) → n ≤ length d → m + n ≡ length d → m ≤ n
    → OnTrue b (PlainBetween (take n d ++ take n (drop m d)) 0 (n + n)) → OnTrue b (PlainBetween d 0 (length d))
ends_plain b n m d within last few = on_true b _ _ (both_plain n m d within last few)
