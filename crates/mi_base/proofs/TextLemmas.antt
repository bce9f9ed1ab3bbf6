-- No newline stands within the compact text of a value, so its line is the first one of what begins with it.
-- Cited by `BaseLines::advance` and `BaseLines::is_at_end`.
use Rattle.std.proofs.Common.{◌≡◌, ℕ, zero, suc, ◌+◌, ◌/◌, ◌%◌, ◌-◌, ◌&&◌, List, [], ◌∷◌, ◌++◌, length, get_or, Bool, true, false, cond, nat_eq, nat_lt, ℤ, pos, negsuc}
use Rattle.std.proofs.Common.{Option, Some, None, refl, sym, ap, ◌∙◌, arith, append_assoc}
use Rattle.std.proofs.lemmas.Bool.Decides.{nat_tests}
use Rattle.std.proofs.lemmas.List.{length-append}
use Rattle.std.proofs.Math.Seq.{get_or-append_seam}
use Rattle.std.specs.Prelude.{IfSome, decimal}
use Rattle.std.specs.Char.{digit_char}
use Rattle.std.specs.Fmt.{digit_glyph, digits_onto, digits}
use Rattle.std.specs.Fmt.{signed_decimal}
use Rattle.std.specs.Io.BufRead.{take_through, drop_through, ends_with_byte, DropsThrough}
use Rattle.json.specs.Print.{escape_letter, escape_byte, escape, quoted}
use Rattle.serde_json.specs.Data.{Num, unsigned, negative, float, Data, null, boolean, number, string, array, object, Items, no_items, item, Members, no_members, member}
use Rattle.serde_json.specs.Written.{number_text, compact_text, items_text, members_text, comma_if}
use Rattle.mi_base.specs.Lines.{line_text}

abbrev pub Unbroken : List ℕ → Type 0
Unbroken [] = Unit {0}
Unbroken (x ∷ xs) = (nat_eq x 10 ≡ false) × Unbroken xs

both : (xs ys : List ℕ) → Unbroken xs → Unbroken ys → Unbroken (xs ++ ys)
both [] ys h k = k
both (x ∷ xs) ys h k = (h.0, both xs ys h.1 k)

by_test : (P : Bool → Type 0) (b : Bool) → (b ≡ true → P true) → (b ≡ false → P false) → P b
by_test P true f g = f refl
by_test P false f g = g refl

glyph : (d : ℕ) → nat_eq (digit_glyph false d) 10 ≡ false
glyph d = by_test (λ b. nat_eq (cond b (48 + d) (87 + d)) 10 ≡ false) (nat_lt d 10) (λ _. grind arith) (λ _. grind arith)

onto : (k n : ℕ) (acc : List ℕ) → Unbroken acc → Unbroken (digits_onto k 10 false n acc)
onto zero n acc h = h
onto (suc k) n acc h =
    by_test (λ b. Unbroken (cond b (digit_glyph false (n % 10) ∷ acc) (digits_onto k 10 false (n / 10) (digit_glyph false (n % 10) ∷ acc))))
    (nat_eq (n / 10) 0) (λ _. (glyph (n % 10), h)) (λ _. onto k (n / 10) (digit_glyph false (n % 10) ∷ acc) (glyph (n % 10), h))

decimal_unbroken : (n : ℕ) → Unbroken (decimal n)
unfolding digits
decimal_unbroken n = onto 64 n [] tt

signed_unbroken : (z : ℤ) → Unbroken (signed_decimal z)
signed_unbroken (pos n) = decimal_unbroken n
signed_unbroken (negsuc n) = (refl, decimal_unbroken (suc n))

number_unbroken : (n : Num) → Unbroken (number_text n)
number_unbroken (unsigned n) = decimal_unbroken n
number_unbroken (negative z) = signed_unbroken z
number_unbroken (float x) = tt

letter_isnt : (x : ℕ) → nat_eq (escape_letter x) 10 ≡ false
letter_isnt x = grind (arith, nat_tests)

char_isnt : (d : ℕ) → nat_eq (digit_char d) 10 ≡ false
char_isnt d = grind (arith, nat_tests)

above : (x : ℕ) → nat_lt x 32 ≡ false → nat_eq x 10 ≡ false
above x h = grind (arith, nat_tests)

byte_unbroken : (x : ℕ) → Unbroken (escape_byte x)
unfolding escape_byte
byte_unbroken x =
    by_test (λ b. Unbroken (cond b (92 ∷ escape_letter x ∷ [])
    (cond (nat_lt x 32) (92 ∷ 117 ∷ 48 ∷ 48 ∷ digit_char (x / 16) ∷ digit_char (x % 16) ∷ []) (x ∷ []))))
    (nat_lt 0 (escape_letter x))
    (λ _. (refl, (letter_isnt x, tt)))
    (λ _. by_test (λ b. Unbroken (cond b (92 ∷ 117 ∷ 48 ∷ 48 ∷ digit_char (x / 16) ∷ digit_char (x % 16) ∷ []) (x ∷ [])))
    (nat_lt x 32)
    (λ _. (refl, (refl, (refl, (refl, (char_isnt (x / 16), (char_isnt (x % 16), tt)))))))
    (λ h. (above x h, tt)))

escape_unbroken : (s : List ℕ) → Unbroken (escape s)
escape_unbroken [] = tt
escape_unbroken (x ∷ s) = both (escape_byte x) (escape s) (byte_unbroken x) (escape_unbroken s)

quoted_unbroken : (s : List ℕ) → Unbroken (quoted s)
quoted_unbroken s = (refl, both (escape s) (34 ∷ []) (escape_unbroken s) (refl, tt))

comma_unbroken : (later : Bool) → Unbroken (comma_if later)
comma_unbroken true = (refl, tt)
comma_unbroken false = tt

mutual
  pub unbroken : (d : Data) → Unbroken (compact_text d)
  unbroken null = (refl, (refl, (refl, (refl, tt))))
  unbroken (boolean true) = (refl, (refl, (refl, (refl, tt))))
  unbroken (boolean false) = (refl, (refl, (refl, (refl, (refl, tt)))))
  unbroken (number n) = number_unbroken n
  unbroken (string s) = quoted_unbroken s
  unbroken (array ds) = (refl, items_unbroken false ds)
  unbroken (object ms) = (refl, members_unbroken false ms)

  items_unbroken : (later : Bool) (ds : Items) → Unbroken (items_text later ds)
  items_unbroken later no_items = (refl, tt)
  items_unbroken later (item d ds) =
      both (comma_if later) (compact_text d ++ items_text true ds) (comma_unbroken later)
      (both (compact_text d) (items_text true ds) (unbroken d) (items_unbroken true ds))

  members_unbroken : (later : Bool) (ms : Members) → Unbroken (members_text later ms)
  members_unbroken later no_members = (refl, tt)
  members_unbroken later (member k d ms) =
      both (comma_if later) (quoted k ++ 58 ∷ (compact_text d ++ members_text true ms)) (comma_unbroken later)
      (both (quoted k) (58 ∷ (compact_text d ++ members_text true ms)) (quoted_unbroken k)
      (refl, both (compact_text d) (members_text true ms) (unbroken d) (members_unbroken true ms)))

through : (xs rest : List ℕ) → Unbroken xs → take_through 10 (xs ++ 10 ∷ rest) ≡ xs ++ 10 ∷ []
through [] rest h = refl
through (x ∷ xs) rest h = ap (λ b. cond b (x ∷ []) (x ∷ take_through 10 (xs ++ 10 ∷ rest))) h.0 ∙ ap (λ t. x ∷ t) (through xs rest h.1)

behind : (xs rest : List ℕ) → Unbroken xs → drop_through 10 (xs ++ 10 ∷ rest) ≡ rest
behind [] rest h = refl
behind (x ∷ xs) rest h = ap (λ b. cond b (xs ++ 10 ∷ rest) (drop_through 10 (xs ++ 10 ∷ rest))) h.0 ∙ behind xs rest h.1

-- what begins with a line has it as its first
pub line_through : (d : Data) (rest : List ℕ) → take_through 10 (line_text d ++ rest) ≡ line_text d
line_through d rest = ap (take_through 10) (append_assoc (compact_text d) (10 ∷ []) rest) ∙ through (compact_text d) rest (unbroken d)

pub line_behind : (d : Data) (rest : List ℕ) → drop_through 10 (line_text d ++ rest) ≡ rest
line_behind d rest = ap (drop_through 10) (append_assoc (compact_text d) (10 ∷ []) rest) ∙ behind (compact_text d) rest (unbroken d)

-- a line that was read is the first one
pub line_found : (old new : Option (List ℕ)) (front line : List ℕ) → IfSome old (λ bytes. line ≡ front ++ take_through 10 bytes) → front ≡ []
    → DropsThrough old new 10
    → IfSome old (λ bytes. (d : Data) (rest : List ℕ) → Unit {0} → bytes ≡ line_text d ++ rest → (line ≡ line_text d) × (new ≡ Some rest))
line_found None new front line h none k = tt
line_found (Some bytes) new front line h none k = λ d rest u e. (
  h ∙ ap (λ t. t ++ take_through 10 bytes) none ∙ ap (take_through 10) e ∙ line_through d rest,
  k ∙ ap (λ t. Some (drop_through 10 t)) e ∙ ap Some (line_behind d rest),
)

-- such a line ends with its newline
ends_so : (text : List ℕ) → ends_with_byte 10 (text ++ 10 ∷ []) ≡ true
ends_so text =
    let len : length (text ++ 10 ∷ []) ≡ length text + 1 = length-append text (10 ∷ []) in
    let at : length (text ++ 10 ∷ []) - 1 ≡ length text = omega (arith, len) in
    let some : nat_lt 0 (length (text ++ 10 ∷ [])) ≡ true = grind (arith, len) in
    let last : get_or (text ++ 10 ∷ []) (length (text ++ 10 ∷ []) - 1) 0 ≡ 10 =
    ap (λ n. get_or (text ++ 10 ∷ []) n 0) at ∙ get_or-append_seam text 10 [] 0 in
    ap (λ b. b && nat_eq (get_or (text ++ 10 ∷ []) (length (text ++ 10 ∷ []) - 1) 0) 10) some ∙ ap (λ v. nat_eq v 10) last

-- so what was read without a newline doesn't begin with a line
pub line_torn : (old : Option (List ℕ)) (front line : List ℕ) → IfSome old (λ bytes. line ≡ front ++ take_through 10 bytes) → front ≡ []
    → ends_with_byte 10 line ≡ false → IfSome old (λ bytes. (d : Data) (rest : List ℕ) → Unit {0} → bytes ≡ line_text d ++ rest → Unit {0} → ⊥)
line_torn None front line h none torn = tt
line_torn (Some bytes) front line h none torn = λ d rest u e w.
    let is : line ≡ line_text d = h ∙ ap (λ t. t ++ take_through 10 bytes) none ∙ ap (take_through 10) e ∙ line_through d rest in
    let both_ways : true ≡ false = sym (ends_so (compact_text d)) ∙ ap (ends_with_byte 10) (sym is) ∙ torn in
    absurd (cc)

-- where nothing is left, nothing is read
pub none_read : (old : Option (List ℕ)) (front line : List ℕ) (n : ℕ) → IfSome old (λ bytes. line ≡ front ++ take_through 10 bytes) → front ≡ []
    → length line ≡ length front + n → (n ≡ 0 → ⊥) → IfSome old (λ bytes. bytes ≡ [] → ⊥)
none_read None front line n h none long some = tt
none_read (Some bytes) front line n h none long some = λ e.
    let is : line ≡ front ++ [] = h ∙ ap (λ b. front ++ take_through 10 b) e in
    let length_is : length line ≡ length front + 0 = ap length is ∙ length-append front [] in
    some (omega (arith, long, length_is))
