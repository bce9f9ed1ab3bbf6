-- How the lexer of `json` passes what a writer gives: marks, a space, plain texts, whole numbers and the three words.
-- Cited by `Lexemes::number`, `Lexemes::pass`, `Lexemes::pass_name`, `Lexemes::pass_space`, `Lexemes::string`, 2 more and `mi_request`.
use Rattle.std.proofs.Common.{◌≡◌, ℕ, suc, ◌+◌, ◌-◌, ◌<◌, ◌≤◌, Bool, true, false, cond, ◌==◌, ◌||◌, List, [], ◌∷◌, ◌++◌, length, take, drop, get_or}
use Rattle.std.proofs.Common.{Some, option_and_then, codes, inl, inr, refl, sym, ap, ap₂, ◌∙◌, subst, arith, add-zero, lt_of_not-le, true≢false}
use Rattle.std.proofs.lemmas.Bool.{or_parts, or_cases, not-true, eqb-true, eqb-false, ltb-false}
use Rattle.std.proofs.lemmas.List.{drop_more, drop-drop, get_or-drop, get_or_default, get_or_past, take-append-drop}
use Rattle.std.specs.List.{prefix_len}
use Rattle.json.specs.Token.{string, number, boolean, null, bad}
use Rattle.json.specs.Word.{is_operator, is_space, head, ends_word, after_digits, after_minus, after_sign, after_whole, after_fraction, after_exponent, after_number, word}
use Rattle.json.specs.Lex.{Class, token, class, operator, operator_lexeme, string_token, between, lex_byte, lex, begins_colon}
use Rattle.json.specs.Run.{is_plain}
use Rattle.json.specs.Print.{escape}
use Rattle.json.proofs.Printed.Strings.{escape_byte_plain, content-escape, lex-escape}
use Rattle.json.proofs.Printed.Numbers.{lex-number, number_alone, in_word-ended}
use Rattle.mi_tokens.specs.Ends.{is_end}

-- ---- marks and spaces

abbrev is_operator_class : Class → Bool
is_operator_class Class.quote = false
is_operator_class Class.backslash = false
is_operator_class Class.operator = true
is_operator_class Class.space = false
is_operator_class Class.other = false

-- a mark is a lexeme by itself
pub lex_mark : (t : List ℕ) → class (head t) ≡ operator → lex between t ≡ operator_lexeme (head t) ∷ lex between (drop 1 t)
unfolding lex
lex_mark [] e = absurd (true≢false (sym (ap is_operator_class e)))
lex_mark (x ∷ xs) e = ap (λ c. lex_byte between c x xs (λ n. lex n xs)) e

-- a space is none
pub lex_space : (t : List ℕ) → head t ≡ 32 → lex between (drop 1 t) ≡ lex between t
unfolding lex
lex_space [] e = refl
lex_space (x ∷ xs) e = ap (λ y. lex between (y ∷ xs)) (sym e)

-- the three bytes that end a value
pub end_cases : (P : ℕ → Type 0) → P 44 → P 125 → P 93 → (x : ℕ) → is_end x ≡ true → P x
end_cases P comma brace bracket x e = elim (or_cases _ _ e) [
  | inr is ↦ subst P (sym (eqb-true x 93 is)) bracket
  | inl first ↦ elim (or_cases _ _ first) [
    | inr is ↦ subst P (sym (eqb-true x 125 is)) brace
    | inl is ↦ subst P (sym (eqb-true x 44 is)) comma
  ]
]

pub end_is_mark : (t : List ℕ) → is_end (head t) ≡ true → class (head t) ≡ operator
end_is_mark t e = end_cases (λ x. class x ≡ operator) refl refl refl (head t) e

pub end_ends_word : (t : List ℕ) → is_end (head t) ≡ true → ends_word t ≡ true
end_ends_word t e = end_cases (λ x. (is_operator x || is_space x) ≡ true) refl refl refl (head t) e

-- no colon begins at the end of a value
pub end_no_colon : (t : List ℕ) → is_end (head t) ≡ true → begins_colon (lex between t) ≡ false
end_no_colon t e =
    ap begins_colon (lex_mark t (end_is_mark t e))
    ∙ end_cases (λ x. begins_colon (operator_lexeme x ∷ lex between (drop 1 t)) ≡ false) refl refl refl (head t) e

-- ---- texts

escape_step : (p : Bool) (x n : ℕ) (xs : List ℕ) → p ≡ is_plain x → escape (take n xs) ≡ take n xs
    → escape (take (cond p (1 + n) 0) (x ∷ xs)) ≡ take (cond p (1 + n) 0) (x ∷ xs)
escape_step false x n xs e ih = refl
escape_step true x n xs e ih =
    let next : suc n ≡ 1 + n = omega arith in
    let none = or_parts ((x == 34) || (x == 92)) _ (not-true _ (sym e)) in
    let tests = or_parts (x == 34) _ none.0 in
    subst (λ k. escape (take k (x ∷ xs)) ≡ take k (x ∷ xs)) next
    (λ i. escape_byte_plain x (eqb-false x 34 tests.0) (eqb-false x 92 tests.1) (ltb-false x 32 none.1) i ++ ih i)

-- plain bytes need no escape
escape_run : (xs : List ℕ) → escape (take (prefix_len is_plain xs) xs) ≡ take (prefix_len is_plain xs) xs
escape_run [] = refl
escape_run (x ∷ xs) = escape_step (is_plain x) x (prefix_len is_plain xs) xs refl (escape_run xs)

-- the byte at a place, where it isn't the space that stands for the end
pub record At (d : List ℕ) (i x : ℕ) : Type 0 where
  pub within : i < length d
  pub byte : get_or d i 0 ≡ x
  pub rest : drop i d ≡ x ∷ drop (i + 1) d

pub byte_there : (d : List ℕ) (i x : ℕ) → head (drop i d) ≡ x → (x ≡ 32 → ⊥) → At d i x
byte_there d i x e no_space =
    let here : get_or d i 32 ≡ x = ap (λ j. get_or d j 32) (sym (add-zero i)) ∙ sym (get_or-drop i d 0 32) ∙ e in
    let within : i < length d = lt_of_not-le (λ h. no_space (sym here ∙ get_or_past d i 32 h)) in
    record { within = within; byte = get_or_default d i 0 32 within ∙ here; rest = drop_more d i 32 within ∙ ap (λ y. y ∷ drop (i + 1) d) here }

-- a mark stands within the text
pub mark_within : (d : List ℕ) (i : ℕ) → class (head (drop i d)) ≡ operator → i < length d
mark_within d i e = (byte_there d i (head (drop i d)) refl (λ s. true≢false (sym (ap is_operator_class (sym (ap class s) ∙ e))))).within

pub lex_text : (s r : List ℕ) → escape s ≡ s → lex between (34 ∷ (s ++ 34 ∷ r)) ≡ token (string s) ∷ lex between r
unfolding lex
lex_text s r e =
    ap (λ t. lex between (34 ∷ (t ++ 34 ∷ r))) (sym e)
    ∙ ap₂ (λ o l. token (string_token o) ∷ l) (content-escape s r) (lex-escape s r)

-- a text between two quotation marks, whose bytes are plain
pub lex_string : (d : List ℕ) (i stop : ℕ) → head (drop i d) ≡ 34 → stop ≡ i + 1 + prefix_len is_plain (drop (i + 1) d)
    → head (drop stop d) ≡ 34 → lex between (drop i d) ≡ token (string (take (stop - (i + 1)) (drop (i + 1) d))) ∷ lex between (drop (stop + 1) d)
lex_string d i stop opens is closes =
    let n = prefix_len is_plain (drop (i + 1) d) in
    let len : n ≡ stop - (i + 1) = omega arith in
    let s = take n (drop (i + 1) d) in
    let first = byte_there d i 34 opens (λ e. omega arith) in
    let last = byte_there d stop 34 closes (λ e. omega arith) in
    let behind : drop n (drop (i + 1) d) ≡ 34 ∷ drop (stop + 1) d = drop-drop n (i + 1) d ∙ ap (λ k. drop k d) (sym is) ∙ last.rest in
    let parts : drop (i + 1) d ≡ s ++ 34 ∷ drop (stop + 1) d = sym (take-append-drop n (drop (i + 1) d)) ∙ ap (λ t. s ++ t) behind in
    ap (lex between) (first.rest ∙ ap (λ t. 34 ∷ t) parts) ∙ lex_text s (drop (stop + 1) d) (escape_run (drop (i + 1) d))
    ∙ ap (λ k. token (string (take k (drop (i + 1) d))) ∷ lex between (drop (stop + 1) d)) len

-- ---- whole numbers

-- a whole number ends where a value ends
pub number_read : (t u r : List ℕ) → after_minus t ≡ u → after_whole u ≡ Some r → is_end (head r) ≡ true → after_number t ≡ Some r
unfolding after_number
number_read t u r minus whole e =
    ap (λ v. option_and_then after_exponent (option_and_then after_fraction (after_whole v))) minus
    ∙ ap (λ o. option_and_then after_exponent (option_and_then after_fraction o)) whole
    ∙ ap (option_and_then after_exponent) (end_cases (λ x. cond (x == 46) (after_digits (drop 1 r)) (Some r) ≡ Some r) refl refl refl (head r) e)
    ∙ end_cases (λ x. cond ((x == 101) || (x == 69)) (after_digits (after_sign (drop 1 r))) (Some r) ≡ Some r) refl refl refl (head r) e

pub lex_whole : (s r : List ℕ) → after_number (s ++ r) ≡ Some r → is_end (head r) ≡ true → lex between (s ++ r) ≡ token (number s) ∷ lex between r
lex_whole s r read e = let ended = end_ends_word r e in lex-number s r (number_alone s r ended read) ended

-- a whole number from i up to the place where it stops
pub lex_number_at : (d : List ℕ) (i stop : ℕ) → i ≤ stop → after_number (drop i d) ≡ Some (drop stop d) → is_end (head (drop stop d)) ≡ true
    → lex between (drop i d) ≡ token (number (take (stop - i) (drop i d))) ∷ lex between (drop stop d)
lex_number_at d i stop le read e =
    let s = take (stop - i) (drop i d) in
    let whole : i + (stop - i) ≡ stop = omega arith in
    let behind : drop (stop - i) (drop i d) ≡ drop stop d = drop-drop (stop - i) i d ∙ ap (λ k. drop k d) whole in
    let parts : s ++ drop stop d ≡ drop i d = ap (λ t. s ++ t) (sym behind) ∙ take-append-drop (stop - i) (drop i d) in
    ap (lex between) (sym parts) ∙ lex_whole s (drop stop d) (ap after_number parts ∙ read) e

-- ---- words

pub lex_true : (r : List ℕ) → ends_word r ≡ true → lex between (codes "true" ++ r) ≡ token (boolean true) ∷ lex between r
unfolding lex word
lex_true r ended = ap₂ (λ b l. token (cond b (boolean true) bad) ∷ l) ended (in_word-ended r ended)

pub lex_false : (r : List ℕ) → ends_word r ≡ true → lex between (codes "false" ++ r) ≡ token (boolean false) ∷ lex between r
unfolding lex word
lex_false r ended = ap₂ (λ b l. token (cond b (boolean false) bad) ∷ l) ended (in_word-ended r ended)

pub lex_null : (r : List ℕ) → ends_word r ≡ true → lex between (codes "null" ++ r) ≡ token null ∷ lex between r
unfolding lex word
lex_null r ended = ap₂ (λ b l. token (cond b null bad) ∷ l) ended (in_word-ended r ended)
