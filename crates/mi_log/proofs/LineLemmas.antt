-- What was read up to a newline, or to the end where there is none.
-- Cited by `LogLines::advance`.
use Rattle.std.proofs.Common.{◌≡◌, ℕ, ◌+◌, ◌-◌, ◌⊎◌, inl, inr, List, [], ◌∷◌, ◌++◌, length, get_or, Bool, true, false, cond, ◌&&◌, nat_eq, nat_lt}
use Rattle.std.proofs.Common.{Option, Some, None, Result, Ok, refl, sym, ap, ◌∙◌, arith}
use Rattle.std.proofs.lemmas.List.{length-append}
use Rattle.std.proofs.Math.Seq.{get_or-append_seam}
use Rattle.std.specs.Io.BufRead.{take_through, drop_through, ends_with_byte, DropsThrough}
use Rattle.std.specs.Prelude.{IfSome}

-- a text and a newline end with a newline
ends_so : (text : List ℕ) → ends_with_byte 10 (text ++ 10 ∷ []) ≡ true
ends_so text =
    let len : length (text ++ 10 ∷ []) ≡ length text + 1 = length-append text (10 ∷ []) in
    let at : length (text ++ 10 ∷ []) - 1 ≡ length text = omega (arith, len) in
    let some : nat_lt 0 (length (text ++ 10 ∷ [])) ≡ true = grind (arith, len) in
    let last : get_or (text ++ 10 ∷ []) (length (text ++ 10 ∷ []) - 1) 0 ≡ 10 =
    ap (λ n. get_or (text ++ 10 ∷ []) n 0) at ∙ get_or-append_seam text 10 [] 0 in
    ap (λ b. b && nat_eq (get_or (text ++ 10 ∷ []) (length (text ++ 10 ∷ []) - 1) 0) 10) some ∙ ap (λ v. nat_eq v 10) last

is_ten : (x : ℕ) → nat_eq x 10 ≡ true → x ≡ 10
is_ten x h = grind arith

-- what is read ends with a newline, or nothing is left
parts : (xs : List ℕ) → ((text : List ℕ) × (take_through 10 xs ≡ text ++ 10 ∷ [])) ⊎ (drop_through 10 xs ≡ [])
parts [] = inr refl
parts (x ∷ xs) = by_test (nat_eq x 10) refl (parts xs)
  where
    by_test : (b : Bool) → nat_eq x 10 ≡ b → ((text : List ℕ) × (take_through 10 xs ≡ text ++ 10 ∷ [])) ⊎ (drop_through 10 xs ≡ [])
        → ((text : List ℕ) × (take_through 10 (x ∷ xs) ≡ text ++ 10 ∷ [])) ⊎ (drop_through 10 (x ∷ xs) ≡ [])
    by_test true is p = inl ([], ap (λ b. cond b (x ∷ []) (x ∷ take_through 10 xs)) is ∙ ap (λ y. y ∷ []) (is_ten x is))
    by_test false is (inl p) = inl (x ∷ p.0, ap (λ b. cond b (x ∷ []) (x ∷ take_through 10 xs)) is ∙ ap (λ t. x ∷ t) p.1)
    by_test false is (inr q) = inr (ap (λ b. cond b xs (drop_through 10 xs)) is ∙ q)

none_left : (xs : List ℕ) → ends_with_byte 10 (take_through 10 xs) ≡ false → drop_through 10 xs ≡ []
none_left xs h = by_parts (parts xs)
  where
    by_parts : ((text : List ℕ) × (take_through 10 xs ≡ text ++ 10 ∷ [])) ⊎ (drop_through 10 xs ≡ []) → drop_through 10 xs ≡ []
    by_parts (inr q) = q
    by_parts (inl p) =
        let both : true ≡ false = sym (ends_so p.0) ∙ ap (λ t. ends_with_byte 10 t) (sym p.1) ∙ h in
        absurd (cc)

pub same_ok : {E : Type 0} (a b : Bool) → ◌≡◌ {A = Result Bool E} (Ok a) (Ok b) → a ≡ b
same_ok a b h = cc

-- a reader that gave no newline has nothing left
pub at_end : (old new : Option (List ℕ)) (line : List ℕ) → IfSome old (λ bytes. line ≡ take_through 10 bytes) → DropsThrough old new 10
    → ends_with_byte 10 line ≡ false → IfSome old (λ bytes. new ≡ Some [])
at_end None new line h k other = tt
at_end (Some xs) new line h k other = k ∙ ap Some (none_left xs (ap (λ t. ends_with_byte 10 t) (sym h) ∙ other))
