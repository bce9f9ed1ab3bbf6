-- What leaves a ring at one of its ends.
-- Cited by `Inverses::pop` and `Inverses::take_oldest`.
use Rattle.std.proofs.Common.{◌≡◌, ◌∙◌, ℕ, ◌+◌, List, ◌++◌, take, drop, reverse, length, ap, sym, arith}
use Rattle.std.proofs.lemmas.List.{take-append-drop, reverse-append, length-reverse, length-drop}

-- from the back
pub shorter : {A : Type 0} (xs ys : List A) (n m : ℕ) → reverse ys ≡ drop n (reverse xs) → length xs ≡ n + m → length ys ≡ m
shorter xs ys n m left all =
    let before = length-reverse xs in
    let after = length-reverse ys in
    let less = ap length left ∙ length-drop n (reverse xs) in
    omega (arith, before, after, less, all)

-- and from the front
pub shorter_front : {A : Type 0} (xs ys : List A) (n m : ℕ) → ys ≡ drop n xs → length xs ≡ m + n → length ys ≡ m
shorter_front xs ys n m left all = let less = ap length left ∙ length-drop n xs in omega (arith, less, all)

pub front_off : {A : Type 0} (xs ys : List A) (n : ℕ) → ys ≡ drop n xs → reverse ys ++ reverse (take n xs) ≡ reverse xs
front_off xs ys n left =
    ap (λ q. reverse q ++ reverse (take n xs)) left ∙ sym (reverse-append (take n xs) (drop n xs)) ∙ ap reverse (take-append-drop n xs)
