-- What `parse` reads of decimal digits; `service_lines` cites it.
-- Cited by `service_lines::number_in`.
use Rattle.std.proofs.Common.{◌≡◌, ◌<◌, ℕ, List, [], ◌∷◌, length, drop, Bool, true, false, cond, ◌&&◌, ◌==◌, nat_eq, nat_lt, Option, Some, None, Result, Ok, Err, refl, sym, ap, ◌∙◌, subst, arith}
use Rattle.std.specs.Result.{result_ok}
use Rattle.std.specs.List.{starts_with}
use Rattle.std.specs.Char.{is_digit}
use Rattle.std.specs.Str.{IsUtf8}
use Rattle.std.specs.Str.Parse.{AllDigits, digits_value, without_leading_plus, ParsesUnsigned}
use Rattle.std.proofs.lemmas.Str.{IsUtf8-from_ascii}
use Rattle.std.proofs.lemmas.Fmt.{IsAscii-from_digits}
use Rattle.mi_clients.specs.ServiceLines.{all_digits, number_in}

are_digits : (ds : List ℕ) → all_digits ds ≡ true → AllDigits 10 ds
are_digits [] h = tt
are_digits (c ∷ cs) h = by_head (is_digit c 10) refl h (are_digits cs)
  where
    by_head : (b : Bool) → is_digit c 10 ≡ b → (is_digit c 10 && all_digits cs) ≡ true → (all_digits cs ≡ true → AllDigits 10 cs) → AllDigits 10 (c ∷ cs)
    by_head true is h more = (grind (arith, is), more (sym (ap (λ b. b && all_digits cs) is) ∙ h))
    by_head false is h more = absurd (cc)

all_are : (ds : List ℕ) → AllDigits 10 ds → all_digits ds ≡ true
all_are [] p = refl
all_are (c ∷ cs) p =
    let one : is_digit c 10 ≡ true = grind (arith, p.0) in
    ap (λ b. b && all_digits cs) one ∙ all_are cs p.1

no_number_of : (ds : List ℕ) → ¬ ((0 < length ds) × AllDigits 10 ds × (digits_value 10 ds < 18446744073709551616)) → number_in ds ≡ None
no_number_of ds other =
    by_tests (nat_lt 0 (length ds)) (all_digits ds) (nat_lt (digits_value 10 ds) 18446744073709551616) refl refl refl
  where
    by_tests : (x y z : Bool) → nat_lt 0 (length ds) ≡ x → all_digits ds ≡ y → nat_lt (digits_value 10 ds) 18446744073709551616 ≡ z
        → ◌≡◌ {A = Option ℕ} (cond (x && (y && z)) (Some (digits_value 10 ds)) None) None
    by_tests true true true a b c = absurd (other (grind (arith, a), are_digits ds b, grind (arith, c)))
    by_tests true true false a b c = refl
    by_tests true false z a b c = refl
    by_tests false y z a b c = refl

number_of : (ds : List ℕ) → 0 < length ds → AllDigits 10 ds → digits_value 10 ds < 18446744073709551616 → number_in ds ≡ Some (digits_value 10 ds)
number_of ds some all small =
    let a : nat_lt 0 (length ds) ≡ true = grind (arith, some) in
    let c : nat_lt (digits_value 10 ds) 18446744073709551616 ≡ true = grind (arith, small) in
    let less = nat_lt (digits_value 10 ds) 18446744073709551616 in
    ap (λ x. cond (x && (all_digits ds && less)) (Some (digits_value 10 ds)) None) a
    ∙ ap (λ x. cond (true && (x && less)) (Some (digits_value 10 ds)) None) (all_are ds all)
    ∙ ap (λ x. cond x (Some (digits_value 10 ds)) None) c

-- bytes that aren't UTF-8 are no digits
pub no_number : (ds : List ℕ) → (IsUtf8 ds → ⊥) → number_in ds ≡ None
no_number ds other = no_number_of ds (λ p. other (IsUtf8-from_ascii ds (IsAscii-from_digits ds p.1)))

-- a plus isn't taken away that isn't there
no_plus : (ds : List ℕ) → starts_with nat_eq ds (43 ∷ []) ≡ false → without_leading_plus ds ≡ ds
no_plus [] h = refl
no_plus (c ∷ cs) h = by_test (c == 43) refl
  where
    by_test : (b : Bool) → (c == 43) ≡ b → drop (cond (c == 43) 1 0) (c ∷ cs) ≡ c ∷ cs
    by_test true is =
        let same : c ≡ 43 = grind (arith, is) in
        let both : true ≡ false = subst (λ x. starts_with nat_eq (x ∷ cs) (43 ∷ []) ≡ false) same h in
        absurd (cc)
    by_test false is = ap (λ b. drop (cond b 1 0) (c ∷ cs)) is

pub number_read : {E : Type 0} (ds : List ℕ) (r : Result ℕ E) → starts_with nat_eq ds (43 ∷ []) ≡ false → ParsesUnsigned 64 10 ds r
    → result_ok r ≡ number_in ds
number_read ds (Ok v) none p =
    let q = subst (λ bs. ((0 < length bs) × AllDigits 10 bs) × (digits_value 10 bs < 18446744073709551616) × (v ≡ digits_value 10 bs)) (no_plus ds none)
    (p.0.0, p.0.1, p.1) in
    ap Some q.2 ∙ sym (number_of ds q.0.0 q.0.1 q.1)
number_read ds (Err e) none p =
    sym (no_number_of ds (λ q. subst (λ bs. ¬ (((0 < length bs) × AllDigits 10 bs) × (digits_value 10 bs < 18446744073709551616))) (no_plus ds none) p
    ((q.0, q.1), q.2)))
