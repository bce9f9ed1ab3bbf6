-- Digits that are passed are the decimal of what they write, and `serde_json` reads a number in decimal as that number.
-- Cited by `lexemes::digits`, `lexemes::whole`, `pass::plain` and `mi_request`.
use Rattle.std.proofs.Common.{◌≡◌, ℕ, suc, ◌+◌, ◌*◌, ◌-◌, ◌<◌, ◌≤◌, ◌^◌, ◌==◌, ◌&&◌, Bool, true, false, cond, List, [], ◌∷◌, length, take, drop, get_or}
use Rattle.std.proofs.Common.{ℤ, pos, negsuc, Some, decimal, refl, sym, ap, ◌∙◌, subst, arith, length-take-le, ne_eqb, add-one}
use Rattle.std.proofs.Math.Nat.{pow-le-pow_right, pow-suc}
use Rattle.std.proofs.lemmas.Fmt.{decimal-digits_value, decimal_digit}
use Rattle.std.proofs.lemmas.List.{get_or-take}
use Rattle.std.proofs.lemmas.Bool.Decides.{nat_tests}
use Rattle.std.proofs.lemmas.List.Sums.{prefix_len-le-length}
use Rattle.std.proofs.lemmas.Str.Parse.{IsNumeralModel, numerals_by_value, tells_all_ascii_digits, digits_value_short}
use Rattle.std.specs.Char.{is_ascii_digit, digit_value}
use Rattle.std.specs.Fmt.{signed_decimal}
use Rattle.std.specs.Int.{w64}
use Rattle.std.specs.List.{prefix_len}
use Rattle.std.specs.Prelude.{FitsSigned}
use Rattle.std.specs.Str.{all_ascii_digits}
use Rattle.std.specs.Str.Parse.{digits_value, digits_value_after}
use Rattle.json.specs.Word.{head, after_whole}
use Rattle.serde_json.specs.Find.{of_integer}
use Rattle.serde_json.specs.Read.{number_of}
use Rattle.serde_json.proofs.Numbers.{number_of-decimal, number_of-negative}
use Rattle.mi_tokens.proofs.LexemeLemmas.{byte_there}

-- ---- digits, one more

pub no_more : (i k n : ℕ) → i ≤ k → n < 10 ^ i → n < 10 ^ k
no_more i k n le h = let some : 0 < 10 = omega arith in omega (arith, h, pow-le-pow_right {n = 10} some {i = i} {j = k} le)

-- a digit more is below the next power of ten
pub below_next : (k n d : ℕ) → n < 10 ^ k → d < 10 → n * 10 + d < 10 ^ (k + 1)
below_next k n d small digit = rw add-one (omega (arith, pow-suc 10 k))

-- the digits with which a text begins
abbrev pub run : List ℕ → List ℕ
run xs = take (prefix_len is_ascii_digit xs) xs

run_front : (p : Bool) (c n : ℕ) (xs : List ℕ) → p ≡ true → take (cond p (1 + n) 0) (c ∷ xs) ≡ c ∷ take n xs
run_front p c n xs e = rw e (let next : 1 + n ≡ suc n = omega arith in ap (λ k. take k (c ∷ xs)) next)

pub run_more : (c : ℕ) (xs : List ℕ) → is_ascii_digit c ≡ true → run (c ∷ xs) ≡ c ∷ run xs
run_more c xs e = run_front (is_ascii_digit c) c (prefix_len is_ascii_digit xs) xs e

-- ---- digits

abbrev own : IsNumeralModel (λ ds. all_ascii_digits ds ≡ true) (digits_value 10)
own = numerals_by_value _ tells_all_ascii_digits

run_step : (p : Bool) (c n : ℕ) (xs : List ℕ) → is_ascii_digit c ≡ p → all_ascii_digits (take n xs) ≡ true → all_ascii_digits (take (cond p (1 + n) 0) (c ∷ xs)) ≡ true
run_step false c n xs e ih = refl
run_step true c n xs e ih =
    let next : suc n ≡ 1 + n = omega arith in
    subst (λ k. all_ascii_digits (take k (c ∷ xs)) ≡ true) next (ap (λ b. b && all_ascii_digits (take n xs)) e ∙ ih)

run_digits : (xs : List ℕ) → all_ascii_digits (run xs) ≡ true
run_digits [] = refl
run_digits (c ∷ xs) = run_step (is_ascii_digit c) c (prefix_len is_ascii_digit xs) xs refl (run_digits xs)

first_byte : (t : List ℕ) → 0 < length t → get_or t 0 0 ≡ 48 → head t ≡ 48
first_byte [] some e = absurd (omega arith)
first_byte (x ∷ xs) some e = e

-- digits that begin with no zero: where they end, and what they write
pub record IsWritten (t : List ℕ) (k : ℕ) : Type 0 where
  pub passed : after_whole t ≡ Some (drop k t)
  pub text : take k t ≡ decimal (digits_value 10 (take k t))
  pub small : digits_value 10 (take k t) < 10 ^ 18

pub digits_written : (t : List ℕ) (k : ℕ) → (head t == 48) ≡ false → k ≡ prefix_len is_ascii_digit t → 0 < k → k ≤ 18 → IsWritten t k
digits_written t k other is some few =
    let bound : k ≤ length t = omega (arith, prefix_len-le-length is_ascii_digit t) in
    let long : length (take k t) ≡ k = length-take-le k t bound in
    let all : all_ascii_digits (take k t) ≡ true = ap (λ n. all_ascii_digits (take n t)) is ∙ run_digits t in
    let small = digits_value_short own (take k t) 18 all (omega arith) in
    let no_zero : get_or (take k t) 0 0 ≡ 48 → length (take k t) ≡ 1 =
    λ e. absurd (not_both (head t) (first_byte t (omega arith) (sym (get_or-take k t 0 0 some) ∙ e)) other) in
    let none : (prefix_len is_ascii_digit t == 0) ≡ false = ne_eqb (prefix_len is_ascii_digit t) 0 (λ e. omega arith) in record {
      passed = rw (other, none) (ap (λ n. Some (drop n t)) (sym is));
      text = sym (decimal-digits_value own (take k t) all (omega arith) no_zero (omega (arith, small)));
      small = small;
    }
  where
    not_both : (x : ℕ) → x ≡ 48 → (x == 48) ≡ false → ⊥
    not_both x e other = let is : (48 == 48) ≡ false = ap (λ y. y == 48) (sym e) ∙ other in cc

-- a zero stands alone
pub zero_written : (d : List ℕ) (i : ℕ) → head (drop i d) ≡ 48 → (take 1 (drop i d) ≡ decimal 0) × (after_whole (drop i d) ≡ Some (drop (i + 1) d))
zero_written d i e =
    let here = byte_there d i 48 e (λ s. omega arith) in
    (ap (take 1) here.rest ∙ sym (decimal_digit 0 (omega arith)), rw here.rest refl)

-- ---- numbers in decimal

pub number_read : (z : ℤ) → FitsSigned w64 z → number_of (signed_decimal z) ≡ Some (of_integer z)
number_read (pos n) fits = number_of-decimal n (omega (arith, fits))
number_read (negsuc n) fits = number_of-negative n (omega (arith, fits))

-- ---- a loop over digits

-- a digit passed: the run that is left is one shorter, and the number one digit longer
pub record IsPassed (d : List ℕ) (i n c : ℕ) : Type 0 where
  pub shorter : prefix_len is_ascii_digit (drop i d) ≡ 1 + prefix_len is_ascii_digit (drop (i + 1) d)
  pub longer : digits_value_after 10 n (run (drop i d)) ≡ digits_value_after 10 (n * 10 + (c - 48)) (run (drop (i + 1) d))
  pub few : c - 48 < 10

value_is : (c : ℕ) → is_ascii_digit c ≡ true → (digit_value c ≡ c - 48) × (c - 48 < 10)
value_is c e =
    let least : 48 ≤ c = grind (arith, nat_tests) in
    let most : c < 58 = grind (arith, nat_tests) in
    (grind (arith, nat_tests), omega arith)

pub digit_passed : (d : List ℕ) (i n c : ℕ) → drop i d ≡ c ∷ drop (i + 1) d → is_ascii_digit c ≡ true → IsPassed d i n c
digit_passed d i n c here e =
    let v = value_is c e in record {
      shorter = rw (here, e) refl;
      longer = rw (here, run_more c (drop (i + 1) d) e) (ap (λ x. digits_value_after 10 (n * 10 + x) (run (drop (i + 1) d))) v.0);
      few = v.1;
    }
