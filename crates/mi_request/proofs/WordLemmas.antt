-- What is written of a short line is read, and what is read was written.
-- Cited by `ShortRequest::of`, `short::commit`, `short::erase`, `short::get`, `short::nth` and 10 more.
use Rattle.std.proofs.Common.{◌≡◌, ℕ, suc, ◌+◌, ◌-◌, ◌^◌, ◌<◌, ◌≤◌, ◌==◌, List, [], ◌∷◌, ◌++◌, length, get_or, take, drop, Bool, true, false, cond, not, ◌&&◌}
use Rattle.std.proofs.Common.{Option, Some, None, is_some, option_map, option_and_then, bytes_eq, decimal, codes, nat_lt, refl, sym, ap, ap₂, ◌∙◌, subst, arith, inl, inr}
use Rattle.std.proofs.Common.{append_assoc, length-append, ltb-true, lt-ltb, true≢false, Bor}
use Rattle.std.specs.Prelude.{IfSome}
use Rattle.std.proofs.Common.{◌*◌, add-one, pow-suc}
use Rattle.std.proofs.lemmas.Int.Digits.{digits_value_more}
use Rattle.std.proofs.lemmas.Str.{digit_value_digit}
use Rattle.std.proofs.lemmas.Bool.{cases_lt, or_cases}
use Rattle.std.proofs.Common.{nat_le, IsUtf8}
use Rattle.std.proofs.lemmas.List.{take_rest}
use Rattle.std.proofs.Math.Seq.{take-append_seam}
use Rattle.json.proofs.Printed.Utf8.{are_ascii, IsUtf8-are_ascii}
use Rattle.std.proofs.lemmas.Fmt.{decimal_nonempty}
use Rattle.std.proofs.lemmas.List.{get_or-take}
use Rattle.std.proofs.lemmas.List.Folds.{length-prefix_len}
use Rattle.std.proofs.lemmas.Bool.{eqb-true, eq-eqb, and_parts, and_from, leb-true}
use Rattle.std.proofs.lemmas.Fmt.{decimal_is_IsNumeral, digits_value-decimal, length-decimal-le, first_decimal, decimal_digit, decimal-digits_value}
use Rattle.std.proofs.lemmas.List.{take_at, drop_at, take-append-drop}
use Rattle.std.proofs.lemmas.Option.{none-some, same_Some, cond_some, option_and_then_some, some_pair_parts}
use Rattle.std.proofs.lemmas.Slice.Eq.{bytes_eq-Decides}
use Rattle.std.proofs.lemmas.Str.Parse.{IsNumeralModel, numerals_by_value, tells_all_ascii_digits}
use Rattle.std.specs.Char.{is_ascii_digit}
use Rattle.std.specs.List.{prefix_len, list_all}
use Rattle.std.specs.Str.{all_ascii_digits}
use Rattle.std.specs.Str.Parse.{digits_value}
use Rattle.mi_request.specs.Short.{Word, name, maybe_name, whole, maybe_whole, Member, is_name_byte, stops_name, are_name_bytes, is_word, are_words}
use Rattle.mi_request.specs.Short.{name_front, whole_front, member_text, members_text, command_front, line_text, written, words_of, short_line}
use Rattle.mi_request.specs.ShortCode.{behind, name_at, natural_of, whole_at, needed_at, present_or, Kind, a_name, perhaps_name, a_whole, perhaps_whole, kind_of}
use Rattle.mi_request.specs.ShortCode.{Template, template, made, read_member, read_members, read_line, IsRead}
use Rattle.mi_request.specs.declared.request.Request.{Request}

mapped : {A B : Type 0} (f : A → B) (o : Option A) → option_and_then (λ a. Some (f a)) o ≡ option_map f o
mapped f None = refl
mapped f (Some a) = refl

-- ---- fronts

pub behind-front : (f t : List ℕ) → behind f (f ++ t) ≡ Some t
unfolding behind
behind-front [] t = refl
behind-front (x ∷ f) t = rw (eq-eqb x x refl) (behind-front f t)

same_head : (b : Bool) (o : Option (List ℕ)) (t : List ℕ) → cond b o None ≡ Some t → (b ≡ true) × (o ≡ Some t)
same_head true o t e = (refl, e)
same_head false o t e = absurd (none-some t e)

pub front-behind : (f t rest : List ℕ) → behind f t ≡ Some rest → t ≡ f ++ rest
unfolding behind
front-behind [] t rest e = same_Some t rest e
front-behind (x ∷ f) [] rest e = absurd (none-some rest e)
front-behind (x ∷ f) (y ∷ t) rest e =
    let p = same_head (x == y) (behind f t) rest e in
    ap₂ (λ a l. a ∷ l) (sym (eqb-true x y p.0)) (front-behind f t rest p.1)

none_or : (o : Option (List ℕ)) → ((rest : List ℕ) → o ≡ Some rest → ⊥) → o ≡ None
none_or None never = refl
none_or (Some rest) never = absurd (never rest refl)

-- where the first bytes aren't the front, nothing stands behind it
pub not_behind : (f t : List ℕ) → (take (length f) t ≡ f → ⊥) → None ≡ behind f t
not_behind f t other = sym (none_or (behind f t) (λ rest e. other (ap (take (length f)) (front-behind f t rest e) ∙ take-append_seam f rest)))

pub short_of : (f t : List ℕ) → length t < length f → None ≡ behind f t
short_of f t few = sym (none_or (behind f t) (λ rest e. omega (arith, few, ap length (front-behind f t rest e), length-append f rest)))

pub is_behind : (f t rest : List ℕ) → take (length f) t ≡ f → rest ≡ drop (length f) t → Some rest ≡ behind f t
is_behind f t rest first left =
    sym (ap (behind f) (sym (take-append-drop (length f) t) ∙ ap₂ (λ a b. a ++ b) first (sym left)) ∙ behind-front f rest)

-- ---- runs

not_twice : (b : Bool) → b ≡ not (not b)
not_twice true = refl
not_twice false = refl

pub not_stopped : (x : ℕ) → is_name_byte x ≡ not (stops_name x)
not_stopped x = not_twice (is_name_byte x)

-- a run ends in front of a byte that fails
pub run_length : (p : ℕ → Bool) (s : List ℕ) (c : ℕ) (rest : List ℕ) → list_all p s ≡ true → p c ≡ false → prefix_len p (s ++ (c ∷ rest)) ≡ length s
run_length p [] c rest all stop = rw stop refl
run_length p (x ∷ s) c rest all stop =
    let q = and_parts (p x) (list_all p s) all in
    rw q.0 (ap (λ n. 1 + n) (run_length p s c rest q.1 stop) ∙ omega arith)

run_from : (p : ℕ → Bool) (x : ℕ) (t : List ℕ) (b : Bool) → p x ≡ b → list_all p (take (prefix_len p t) t) ≡ true
    → list_all p (take (cond b (1 + prefix_len p t) 0) (x ∷ t)) ≡ true
run_from p x t true is rest =
    let n : 1 + prefix_len p t ≡ suc (prefix_len p t) = omega arith in
    ap (λ k. list_all p (take k (x ∷ t))) n ∙ and_from (p x) _ is rest
run_from p x t false is rest = refl

run_all : (p : ℕ → Bool) (t : List ℕ) → list_all p (take (prefix_len p t) t) ≡ true
run_all p [] = refl
run_all p (x ∷ t) = run_from p x t (p x) refl (run_all p t)

-- ---- names

pub name-written : (s rest : List ℕ) → are_name_bytes s ≡ true → name_at (s ++ (34 ∷ rest)) ≡ Some (s, rest)
unfolding name_at behind is_name_byte
name-written s rest all =
    let n = run_length is_name_byte s 34 rest all refl in
    rw n (rw (take_at s (34 ∷ rest) (length s) refl, drop_at s (34 ∷ rest) (length s) refl) refl)

pub name-read : (t s rest : List ℕ) → name_at t ≡ Some (s, rest) → (t ≡ s ++ (34 ∷ rest)) × (are_name_bytes s ≡ true)
unfolding name_at
name-read t s rest e =
    let k = prefix_len is_name_byte t in
    option_and_then_some (λ r. Some (take k t, r)) (behind (34 ∷ []) (drop k t)) (s, rest) (mapped (λ r. (take k t, r)) _ ∙ e)
    (λ r found is.
    let p = some_pair_parts (take k t) s r rest is in
    let after : drop k t ≡ 34 ∷ rest = front-behind (34 ∷ []) (drop k t) r found ∙ ap (λ l. 34 ∷ l) p.1 in
    (sym (take-append-drop k t) ∙ ap₂ (λ a b. a ++ b) p.0 after, sym (ap are_name_bytes p.0) ∙ run_all is_name_byte t))

-- a byte of a name is ASCII, and needs no escape
pub name_byte : (x : ℕ) → is_name_byte x ≡ true → (47 < x) × (x < 123) × (x ≡ 92 → ⊥)
unfolding is_name_byte
name_byte x is = elim (or_cases (nat_le 97 x && nat_le x 122) _ is) [
  | inl letter ↦
      let p = and_parts (nat_le 97 x) (nat_le x 122) letter in
      let low = leb-true 97 x p.0 in
      let high = leb-true x 122 p.1 in
      (omega (arith, low), omega (arith, high), λ e. omega (arith, low, e))
  | inr other_byte ↦ elim (or_cases (nat_le 48 x && nat_le x 57) _ other_byte) [
    | inl digit ↦
        let p = and_parts (nat_le 48 x) (nat_le x 57) digit in
        let low = leb-true 48 x p.0 in
        let high = leb-true x 57 p.1 in
        (omega (arith, low), omega (arith, high), λ e. omega (arith, high, e))
    | inr line ↦ let e = eqb-true x 95 line in (omega (arith, e), omega (arith, e), λ b. omega (arith, e, b))
  ]
]

ascii_name : (s : List ℕ) → are_name_bytes s ≡ true → are_ascii s ≡ true
ascii_name [] all = refl
ascii_name (x ∷ s) all =
    let p = and_parts (is_name_byte x) (are_name_bytes s) all in
    let byte = name_byte x p.0 in
    and_from (nat_lt x 128) (are_ascii s) (lt-ltb x 128 (omega (arith, byte.1))) (ascii_name s p.1)

pub utf8_name : (s : List ℕ) → are_name_bytes s ≡ true → IsUtf8 s
utf8_name s all = IsUtf8-are_ascii s (ascii_name s all)

-- what the code finds of a name
module _ (t front rest : List ℕ) (end : ℕ) (r : Option (Bor (List ℕ))) (quote : front ≡ 34 ∷ []) (at : end ≡ prefix_len is_name_byte t)
    (behind_it : rest ≡ take (length t - end) (drop end t)) (found : option_map (λ x. x.now) r ≡ behind front rest) where
  quote_found : behind (34 ∷ []) (drop (prefix_len is_name_byte t) t) ≡ option_map (λ x. x.now) r
  quote_found =
      ap (λ k. behind (34 ∷ []) (drop k t)) (sym at) ∙ ap (behind (34 ∷ [])) (sym (take_rest t end))
      ∙ ap₂ behind (sym quote) (sym behind_it) ∙ sym found

  pub no_name : r ≡ None → name_at t ≡ None
  unfolding name_at
  no_name none =
      ap (option_map {U = List ℕ × List ℕ} (λ l. (take (prefix_len is_name_byte t) t, l))) (quote_found ∙ ap (option_map (λ x. x.now)) none)

  pub name_is : (x : Bor (List ℕ)) → r ≡ Some x → name_at t ≡ Some (take end t, x.now)
  unfolding name_at
  name_is x some =
      ap (option_map {U = List ℕ × List ℕ} (λ l. (take (prefix_len is_name_byte t) t, l))) (quote_found ∙ ap (option_map (λ y. y.now)) some)
      ∙ ap (λ k. Some (take k t, x.now)) (sym at)

pub front_is_name : (t : List ℕ) (end : ℕ) → end ≡ prefix_len is_name_byte t → IsUtf8 (take end t)
front_is_name t end at = subst (λ k. IsUtf8 (take k t)) (sym at) (utf8_name (take (prefix_len is_name_byte t) t) (run_all is_name_byte t))

-- ---- numbers

abbrev own : IsNumeralModel (λ ds. all_ascii_digits ds ≡ true) (digits_value 10)
own = numerals_by_value _ tells_all_ascii_digits

pub natural-written : (n : ℕ) (t : List ℕ) → n < 2 ^ 63 → t ≡ decimal n → natural_of t ≡ Some n
unfolding natural_of
natural-written n t h is =
    let value : digits_value 10 t ≡ n = ap (digits_value 10) is ∙ digits_value-decimal own n (omega (arith, h)) in
    let same : bytes_eq (decimal n) t ≡ true = (bytes_eq-Decides (decimal n) t).1 (sym is) in
    rw value (rw (lt-ltb n (2 ^ 63) h, same) refl)

pub natural-read : (n : ℕ) (t : List ℕ) → natural_of t ≡ Some n → (n < 2 ^ 63) × (t ≡ decimal n)
unfolding natural_of
natural-read n t e =
    let v = digits_value 10 t in
    let p = cond_some (nat_lt v (2 ^ 63) && bytes_eq (decimal v) t) v n e in
    let q = and_parts (nat_lt v (2 ^ 63)) _ p.0 in
    let same : t ≡ decimal v = sym ((bytes_eq-Decides (decimal v) t).0 q.1) in
    (subst (λ m. m < 2 ^ 63) p.1 (ltb-true v (2 ^ 63) q.0), same ∙ ap decimal p.1)

none_natural : (t : List ℕ) (o : Option ℕ) → natural_of t ≡ o → ((n : ℕ) → n < 2 ^ 63 → t ≡ decimal n → ⊥) → o ≡ None
none_natural t None is never = refl
none_natural t (Some n) is never = let p = natural-read n t is in absurd (never n p.0 p.1)

pub natural-none : (t : List ℕ) → ((n : ℕ) → n < 2 ^ 63 → t ≡ decimal n → ⊥) → natural_of t ≡ None
natural-none t never = none_natural t (natural_of t) refl never

each_digit : (ds : List ℕ) → all_ascii_digits ds ≡ list_all is_ascii_digit ds
each_digit [] = refl
each_digit (d ∷ ds) = ap (λ b. is_ascii_digit d && b) (each_digit ds)

digits_all : (n : ℕ) → n < 2 ^ 64 → list_all is_ascii_digit (decimal n) ≡ true
digits_all n h = sym (each_digit (decimal n)) ∙ own.from (decimal n) (decimal_is_IsNumeral n h).0.1

-- the first byte is no digit
abbrev pub Stops : List ℕ → Type 0
Stops [] = Unit {0}
Stops (c ∷ rest) = is_ascii_digit c ≡ false

pub whole-written : (n : ℕ) (rest : List ℕ) → n < 2 ^ 63 → Stops rest → 0 < length rest → whole_at (decimal n ++ rest) ≡ Some (n, rest)
unfolding whole_at
whole-written n [] h stops some = absurd (omega arith)
whole-written n (c ∷ rest) h stops some =
    let k = run_length is_ascii_digit (decimal n) c rest (digits_all n (omega (arith, h))) stops in
    rw k (rw (take_at (decimal n) (c ∷ rest) (length (decimal n)) refl, drop_at (decimal n) (c ∷ rest) (length (decimal n)) refl) (rw (natural-written n (decimal n) h refl) refl))

pub whole-read : (t rest : List ℕ) (n : ℕ) → whole_at t ≡ Some (n, rest) → (t ≡ decimal n ++ rest) × (n < 2 ^ 63)
unfolding whole_at
whole-read t rest n e =
    let k = prefix_len is_ascii_digit t in
    option_and_then_some (λ m. Some (m, drop k t)) (natural_of (take k t)) (n, rest) (mapped (λ m. (m, drop k t)) _ ∙ e)
    (λ m found is.
    let p = some_pair_parts m n (drop k t) rest is in
    let q = natural-read m (take k t) found in
    (sym (take-append-drop k t) ∙ ap₂ (λ a b. a ++ b) (q.1 ∙ ap decimal p.0) p.1, subst (λ j. j < 2 ^ 63) p.0 q.0))

-- one digit more
pub digit_more : (t : List ℕ) (i n : ℕ) → i < length t → 48 ≤ get_or t i 0 → get_or t i 0 ≤ 57 → n ≡ digits_value 10 (take i t)
    → n * 10 + (get_or t i 0 - 48) ≡ digits_value 10 (take (i + 1) t)
digit_more t i n within low high is =
    let digit = digit_value_digit (get_or t i 0) (low, high) in
    omega (arith, is, digit, low, digits_value_more 10 t i within)

pub more_than : (n i d : ℕ) → n < 10 ^ i → d ≤ 9 → n * 10 + d < 10 ^ (i + 1)
more_than n i d h small = let step : 10 ^ (i + 1) ≡ 10 ^ i * 10 = rw (add-one i) (pow-suc 10 i) in omega (arith, h, small, step)

-- which digits write no number
module _ (t : List ℕ) where
  abbrev pub run : ℕ
  run = prefix_len is_ascii_digit t

  no_whole : ((n : ℕ) → n < 2 ^ 63 → take run t ≡ decimal n → ⊥) → whole_at t ≡ None
  unfolding whole_at
  no_whole never = ap (option_map {U = ℕ × List ℕ} (λ n. (n, drop run t))) (natural-none (take run t) never)

  pub many_digits : 19 < run → whole_at t ≡ None
  many_digits many = no_whole (λ n small is.
      let most = length-decimal-le 19 n (omega arith) (omega (arith, small)) (omega (arith, small)) in
      omega (arith, most, ap length is, length-prefix_len is_ascii_digit t, many))

  pub no_digit : run ≡ 0 → whole_at t ≡ None
  no_digit none = no_whole (λ n small is.
      let some = decimal_nonempty n (omega (arith, small)) in
      omega (arith, some, ap length is, length-prefix_len is_ascii_digit t, none))

  pub zero_leads : 1 < run → get_or t 0 0 ≡ 48 → whole_at t ≡ None
  zero_leads more first = no_whole (λ n small is.
      let here : get_or (decimal n) 0 0 ≡ 48 = sym (ap (λ l. get_or l 0 0) is) ∙ get_or-take run t 0 0 (omega (arith, more)) ∙ first in
      let digits : length (decimal n) ≡ run = sym (ap length is) ∙ length-prefix_len is_ascii_digit t in
      elim (cases_lt 0 n) [
        | inl some ↦ omega (arith, here, first_decimal n some (omega (arith, small)))
        | inr none ↦ let none_is : n ≡ 0 = omega (arith, none) in omega (arith, more, digits, ap (λ m. length (decimal m)) none_is ∙ ap length (decimal_digit 0 (omega arith)))
      ])

  pub large_digits : 2 ^ 63 ≤ digits_value 10 (take run t) → whole_at t ≡ None
  large_digits large = no_whole (λ n small is.
      let value : digits_value 10 (take run t) ≡ n = ap (digits_value 10) is ∙ digits_value-decimal own n (omega (arith, small)) in
      omega (arith, value, large, small))

  pub digits_are : (n : ℕ) → 0 < run → (1 < run → get_or t 0 0 ≡ 48 → ⊥) → n ≡ digits_value 10 (take run t) → n < 2 ^ 63 → whole_at t ≡ Some (n, drop run t)
  unfolding whole_at
  digits_are n some leads is small =
      let ds = take run t in
      let all : all_ascii_digits ds ≡ true = each_digit ds ∙ run_all is_ascii_digit t in
      let long : length ds ≡ run = length-prefix_len is_ascii_digit t in
      let value : decimal (digits_value 10 ds) ≡ ds =
      decimal-digits_value own ds all (omega (arith, some, long))
      (λ zero. elim (cases_lt 1 run) [
        | inl more ↦ absurd (leads more (sym (get_or-take run t 0 0 some) ∙ zero))
        | inr one ↦ omega (arith, some, one, long)
      ]) (omega (arith, is, small)) in
      ap (option_map {U = ℕ × List ℕ} (λ m. (m, drop run t))) (natural-written n ds small (sym value ∙ ap decimal (sym is)))

-- ---- members

-- another name than k's stands behind the front of m, whatever follows either
abbrev differ : List ℕ → List ℕ → Bool
differ [] [] = false
differ [] (y ∷ k) = not (34 == y)
differ (x ∷ m) [] = not (x == 34)
differ (x ∷ m) (y ∷ k) = not (x == y && not (differ m k))

other_front : (b c : Bool) (o : Option (List ℕ)) → not (b && not c) ≡ true → (c ≡ true → o ≡ None) → cond b o None ≡ None
other_front true true o apart none = none refl
other_front true false o apart none = absurd (true≢false (sym apart))
other_front false c o apart none = refl

other : (b : Bool) (o : Option (List ℕ)) → not b ≡ true → cond b o None ≡ None
other true o e = absurd (true≢false (sym e))
other false o e = refl

no_front : (m k f rest : List ℕ) → differ m k ≡ true → behind (m ++ (34 ∷ f)) (k ++ (34 ∷ rest)) ≡ None
unfolding behind
no_front [] [] f rest e = absurd (true≢false (sym e))
no_front [] (y ∷ k) f rest e = other (34 == y) _ e
no_front (x ∷ m) [] f rest e = other (x == 34) _ e
no_front (x ∷ m) (y ∷ k) f rest e = other_front (x == y) (differ m k) _ e (no_front m k f rest)

-- no member of the name m
abbrev none_named : List ℕ → List Member → Bool
none_named m [] = true
none_named m (k ∷ ms) = differ m k.0 && none_named m ms

-- all have different names
abbrev pub are_apart : List Member → Bool
are_apart [] = true
are_apart (m ∷ ms) = none_named m.0 ms && are_apart ms

-- the rest behind a front that begins a member of another name
past : (m k f g rest : List ℕ) → differ m k ≡ true → behind (44 ∷ (34 ∷ (m ++ (34 ∷ f)))) ((44 ∷ (34 ∷ (k ++ (34 ∷ g)))) ++ rest) ≡ None
unfolding behind
past m k f g rest e = ap (behind (m ++ (34 ∷ f))) (append_assoc k (34 ∷ g) rest) ∙ no_front m k f (g ++ rest) e

absent : (m f : List ℕ) (ms : List Member) → none_named m ms ≡ true → behind (44 ∷ (34 ∷ (m ++ (34 ∷ f)))) (members_text ms) ≡ None
unfolding behind
absent m f [] none = refl
absent m f ((k, name s) ∷ ms) none = past m k f (58 ∷ (34 ∷ [])) _ (and_parts (differ m k) _ none).0
absent m f ((k, maybe_name None) ∷ ms) none = absent m f ms (and_parts (differ m k) _ none).1
absent m f ((k, maybe_name (Some s)) ∷ ms) none = past m k f (58 ∷ (34 ∷ [])) _ (and_parts (differ m k) _ none).0
absent m f ((k, whole n) ∷ ms) none = past m k f (58 ∷ []) _ (and_parts (differ m k) _ none).0
absent m f ((k, maybe_whole None) ∷ ms) none = absent m f ms (and_parts (differ m k) _ none).1
absent m f ((k, maybe_whole (Some n)) ∷ ms) none = past m k f (58 ∷ []) _ (and_parts (differ m k) _ none).0

-- what stands behind a member begins with a comma or a brace
stops_after : (ms : List Member) → Stops (members_text ms) × (0 < length (members_text ms))
stops_after [] = (refl, omega arith)
stops_after ((k, name s) ∷ ms) = (refl, omega arith)
stops_after ((k, maybe_name None) ∷ ms) = stops_after ms
stops_after ((k, maybe_name (Some s)) ∷ ms) = (refl, omega arith)
stops_after ((k, whole n) ∷ ms) = (refl, omega arith)
stops_after ((k, maybe_whole None) ∷ ms) = stops_after ms
stops_after ((k, maybe_whole (Some n)) ∷ ms) = (refl, omega arith)

-- a member that is written is read
member-written : (m : List ℕ) (w : Word) (ms : List Member) → is_word w ≡ true → none_named m ms ≡ true
    → read_member (kind_of w) m (member_text m w (members_text ms)) ≡ Some (w, members_text ms)
member-written m (name s) ms word none =
    ap (λ o. made name (option_and_then name_at o)) (behind-front (name_front m) (s ++ (34 ∷ members_text ms)))
    ∙ ap (made name) (name-written s (members_text ms) word)
member-written m (maybe_name None) ms word none =
    ap (λ o. made maybe_name (present_or name_at (members_text ms) o)) (absent m (58 ∷ (34 ∷ [])) ms none)
member-written m (maybe_name (Some s)) ms word none =
    ap (λ o. made maybe_name (present_or name_at (name_front m ++ (s ++ (34 ∷ members_text ms))) o)) (behind-front (name_front m) (s ++ (34 ∷ members_text ms)))
    ∙ ap (λ o. made maybe_name (option_map (λ p. (Some p.0, p.1)) o)) (name-written s (members_text ms) word)
member-written m (whole n) ms word none =
    let after = stops_after ms in
    ap (λ o. made whole (option_and_then whole_at o)) (behind-front (whole_front m) (decimal n ++ members_text ms))
    ∙ ap (made whole) (whole-written n (members_text ms) (ltb-true n (2 ^ 63) word) after.0 after.1)
member-written m (maybe_whole None) ms word none =
    ap (λ o. made maybe_whole (present_or whole_at (members_text ms) o)) (absent m (58 ∷ []) ms none)
member-written m (maybe_whole (Some n)) ms word none =
    let after = stops_after ms in
    ap (λ o. made maybe_whole (present_or whole_at (whole_front m ++ (decimal n ++ members_text ms)) o)) (behind-front (whole_front m) (decimal n ++ members_text ms))
    ∙ ap (λ o. made maybe_whole (option_map (λ p. (Some p.0, p.1)) o)) (whole-written n (members_text ms) (ltb-true n (2 ^ 63) word) after.0 after.1)

members-written : (ms : List Member) → are_words ms ≡ true → are_apart ms ≡ true → read_members (template ms) (members_text ms) ≡ Some ms
members-written [] words apart = refl
members-written (m ∷ ms) words apart =
    let p = and_parts (is_word m.1) (are_words ms) words in
    let q = and_parts (none_named m.0 ms) (are_apart ms) apart in
    ap (option_and_then (λ r. option_map (λ rs. (m.0, r.0) ∷ rs) (read_members (template ms) r.1))) (member-written m.0 m.1 ms p.0 q.0)
    ∙ ap (option_map (λ rs. m ∷ rs)) (members-written ms p.1 q.1)

-- what is read of a member was written, in front of the rest
abbrev pub WasWritten : List ℕ → List ℕ → Word → List ℕ → Type 0
WasWritten m t w rest = (t ≡ member_text m w rest) × (is_word w ≡ true)

made_from : {A : Type 0} (word : A → Word) (o : Option (A × List ℕ)) (w : Word) (rest : List ℕ) (P : Type 0) → made word o ≡ Some (w, rest)
    → ((a : A) → o ≡ Some (a, rest) → word a ≡ w → P) → P
made_from word None w rest P e k = absurd (none-some (w, rest) e)
made_from word (Some p) w rest P e k = let q = some_pair_parts (word p.0) w p.1 rest e in k p.0 (ap (λ r. Some (p.0, r)) q.1) q.0

named : (m t s rest r : List ℕ) → behind (name_front m) t ≡ Some r → name_at r ≡ Some (s, rest) → WasWritten m t (name s) rest
named m t s rest r front at =
    let q = name-read r s rest at in
    (front-behind (name_front m) t r front ∙ ap (λ l. name_front m ++ l) q.0, q.1)

numbered : (m t rest r : List ℕ) (n : ℕ) → behind (whole_front m) t ≡ Some r → whole_at r ≡ Some (n, rest) → WasWritten m t (whole n) rest
numbered m t rest r n front at =
    let q = whole-read r rest n at in
    (front-behind (whole_front m) t r front ∙ ap (λ l. whole_front m ++ l) q.0, lt-ltb n (2 ^ 63) q.1)

some_from : {A B : Type 0} (f : A → B) (at : Option (A × List ℕ)) (o : Option B) (rest : List ℕ) (P : Type 0)
    → option_map {U = Option B × List ℕ} (λ p. (Some (f p.0), p.1)) at ≡ Some (o, rest) → ((a : A) → at ≡ Some (a, rest) → Some (f a) ≡ o → P) → P
some_from f None o rest P e k = absurd (none-some (o, rest) e)
some_from f (Some p) o rest P e k = let q = some_pair_parts (Some (f p.0)) o p.1 rest e in k p.0 (ap (λ r. Some (p.0, r)) q.1) q.0

-- of a member that may be absent
perhaps_named : (m t rest : List ℕ) (w : Word) (front : Option (List ℕ)) → behind (name_front m) t ≡ front
    → made maybe_name (present_or name_at t front) ≡ Some (w, rest) → WasWritten m t w rest
perhaps_named m t rest w None is e =
    let q = some_pair_parts (maybe_name None) w t rest e in
    subst (λ v. WasWritten m t v rest) q.0 (q.1, refl)
perhaps_named m t rest w (Some r) is e =
    made_from maybe_name (option_map (λ p. (Some p.0, p.1)) (name_at r)) w rest (WasWritten m t w rest) e
    (λ o found same. subst (λ v. WasWritten m t v rest) same
    (some_from (λ s. s) (name_at r) o rest (WasWritten m t (maybe_name o) rest) found
    (λ s at is_some. subst (λ v. WasWritten m t (maybe_name v) rest) is_some (named m t s rest r is at))))

perhaps_numbered : (m t rest : List ℕ) (w : Word) (front : Option (List ℕ)) → behind (whole_front m) t ≡ front
    → made maybe_whole (present_or whole_at t front) ≡ Some (w, rest) → WasWritten m t w rest
perhaps_numbered m t rest w None is e =
    let q = some_pair_parts (maybe_whole None) w t rest e in
    subst (λ v. WasWritten m t v rest) q.0 (q.1, refl)
perhaps_numbered m t rest w (Some r) is e =
    made_from maybe_whole (option_map (λ p. (Some p.0, p.1)) (whole_at r)) w rest (WasWritten m t w rest) e
    (λ o found same. subst (λ v. WasWritten m t v rest) same
    (some_from (λ n. n) (whole_at r) o rest (WasWritten m t (maybe_whole o) rest) found
    (λ n at is_some. subst (λ v. WasWritten m t (maybe_whole v) rest) is_some (numbered m t rest r n is at))))

pub member-read : (k : Kind) (m t rest : List ℕ) (w : Word) → read_member k m t ≡ Some (w, rest) → WasWritten m t w rest
member-read a_name m t rest w e =
    made_from name (needed_at name_at (name_front m) t) w rest (WasWritten m t w rest) e
    (λ s found same. subst (λ v. WasWritten m t v rest) same
    (option_and_then_some name_at (behind (name_front m) t) (s, rest) found (λ r front at. named m t s rest r front at)))
member-read perhaps_name m t rest w e = perhaps_named m t rest w (behind (name_front m) t) refl e
member-read a_whole m t rest w e =
    made_from whole (needed_at whole_at (whole_front m) t) w rest (WasWritten m t w rest) e
    (λ n found same. subst (λ v. WasWritten m t v rest) same
    (option_and_then_some whole_at (behind (whole_front m) t) (n, rest) found (λ r front at. numbered m t rest r n front at)))
member-read perhaps_whole m t rest w e = perhaps_numbered m t rest w (behind (whole_front m) t) refl e

-- what is read of members was written
abbrev WereWritten : List ℕ → List Member → Type 0
WereWritten t ms = (t ≡ members_text ms) × (are_words ms ≡ true)

consed : (m : List ℕ) (w : Word) (o : Option (List Member)) (ms : List Member) (P : Type 0) → option_map (λ rs. (m, w) ∷ rs) o ≡ Some ms
    → ((rs : List Member) → o ≡ Some rs → (m, w) ∷ rs ≡ ms → P) → P
consed m w None ms P e k = absurd (none-some ms e)
consed m w (Some rs) ms P e k = k rs refl (same_Some ((m, w) ∷ rs) ms e)

members-read : (hs : Template) (t : List ℕ) (ms : List Member) → read_members hs t ≡ Some ms → WereWritten t ms
members-read [] t ms e =
    let p = cond_some (bytes_eq t (codes "}")) [] ms e in
    subst (λ l. WereWritten t l) p.1 ((bytes_eq-Decides t (codes "}")).0 p.0, refl)
members-read (h ∷ hs) t ms e =
    option_and_then_some (λ r. option_map (λ rs. (h.0, r.0) ∷ rs) (read_members hs r.1)) (read_member h.1 h.0 t) ms e
    (λ r found more. consed h.0 r.0 (read_members hs r.1) ms (WereWritten t ms) more
    (λ rs behind_is same.
    let first = member-read h.1 h.0 t r.1 r.0 found in
    let rest = members-read hs r.1 rs behind_is in
    subst (λ l. WereWritten t l) same
    (first.0 ∙ ap (member_text h.0 r.0) rest.0, and_from (is_word r.0) (are_words rs) first.1 rest.1)))

-- ---- lines

abbrev Command : Type 0
Command = List ℕ × List Member

is_line : (c : List ℕ) (ms : List Member) (line : List ℕ) → line ≡ line_text c ms → are_words ms ≡ true → written (c, ms) ≡ Some line
is_line c ms line is words = rw words (ap Some (sym is))

commanded : (c : List ℕ) (q : Option Command) (o : Option (List Member)) (P : Type 0) → ◌≡◌ {A = Option (Option Command)} (Some q) (option_map (λ ms. Some (c, ms)) o)
    → ((ms : List Member) → o ≡ Some ms → q ≡ Some (c, ms) → P) → P
commanded c q None P e k = absurd (none-some q (sym e))
commanded c q (Some ms) P e k = k ms refl (same_Some q (Some (c, ms)) e)

-- a request that is read has this line
pub read-line : (c : List ℕ) (hs : Template) (line : List ℕ) (r : Request) → IsRead c hs line (Some r) → short_line r ≡ Some line
read-line c hs line r e =
    commanded c (words_of r) (read_line c hs line) (short_line r ≡ Some line) e
    (λ ms found is.
    option_and_then_some (read_members hs) (behind (command_front c) line) ms found
    (λ rest front members.
    let p = members-read hs rest ms members in
    ap (option_and_then written) is
    ∙ is_line c ms line (front-behind (command_front c) line rest front ∙ ap (λ l. command_front c ++ l) p.0) p.1))

pub read-lines : (c : List ℕ) (hs : Template) (line : List ℕ) (o : Option Request) → IsRead c hs line o → IfSome o (λ r. short_line r ≡ Some line)
read-lines c hs line None e = tt
read-lines c hs line (Some r) e = read-line c hs line r e

some_if : {A B : Type 0} (f : A → B) (o : Option A) (b : B) → option_map f o ≡ Some b → is_some o ≡ true
some_if f None b e = absurd (none-some b e)
some_if f (Some a) b e = refl

-- a line of this command and these members is read
pub line-read : (c : List ℕ) (ms : List Member) (line : List ℕ) (o : Option Request) → IsRead c (template ms) line o → are_apart ms ≡ true
    → written (c, ms) ≡ Some line → is_some o ≡ true
line-read c ms line o read apart is =
    let p = cond_some (are_words ms) (line_text c ms) line is in
    let front : behind (command_front c) line ≡ Some (members_text ms) = ap (behind (command_front c)) (sym p.1) ∙ behind-front (command_front c) (members_text ms) in
    let found : read_line c (template ms) line ≡ Some ms = ap (option_and_then (read_members (template ms))) front ∙ members-written ms p.0 apart in
    some_if words_of o (Some (c, ms)) (read ∙ ap (option_map (λ l. Some (c, l))) found)

-- ---- a line that isn't read

pub not_read : (c : List ℕ) (hs : Template) (line : List ℕ) (o : Option Request) → o ≡ None → read_line c hs line ≡ None → IsRead c hs line o
not_read c hs line o none found =
    ap (option_map {U = Option Command} words_of) none ∙ sym (ap (option_map {U = Option Command} (λ ms. Some (c, ms))) found)
