-- What the bytes of a record hold.
-- Cited by `Record::new`, `Record::values`, `Values::byte_count`, `ValuesIterator::next`, `record::push_int` and 3 more.
use Rattle.std.proofs.Common.{◌≡◌, ◌≤◌, ◌<◌, ◌+◌, ◌++◌, ◌^◌, ℕ, true, false, FitsSigned, zero, suc, ℤ, Option, Some, None}
use Rattle.std.proofs.Common.{List, [], ◌∷◌, length, take, drop, if◌then◌else◌, Bool, Result, Ok, Err, is_ok, OnOk, IfSome, nat_lt, ◌-◌, ◌==◌, ◌⊎◌, inl, inr, refl, ap, sym, ◌∙◌, arith}
use Rattle.std.specs.Int.{w32, w64, from_le_bytes, to_le_bytes, cast_signed, cast_unsigned}
use Rattle.std.proofs.lemmas.Bool.{le-ltb, ltb-false}
use Rattle.std.proofs.lemmas.Int.{to_z-of_z}
use Rattle.std.proofs.lemmas.List.{append-nil, append_assoc, length-append, drop_at, length-take}
use Rattle.std.proofs.lemmas.Nat.{from_le_bytes-to_le_bytes_4, from_le_bytes-to_le_bytes_8}
use Rattle.std.proofs.Math.Facts.{Fits-of_z, Fits-lt-pow}
use Rattle.std.proofs.Math.Seq.{take-append_seam}
use Rattle.mi_value.specs.declared.value.Value.{Value}
use Rattle.mi_value.specs.declared.value.Value.TheVariants.{Int, Text, Flag}
use Rattle.mi_value.specs.Block.{packed_value, packed, IsPackable, ArePackable, int_at, text_of_length, text_at}
use Rattle.mi_value.specs.Block.{value_at, begun_by, unpacked_behind, unpacked, text_length, texts_length, BeginsWith, IsText, HasTexts}

behind : (n : ℕ) (bs : List ℕ) → unpacked_behind n bs ≡ unpacked (drop n bs)
behind zero bs = refl
behind (suc n) [] = refl
behind (suc n) (b ∷ bs) = behind n bs

-- the first value, and those that the bytes behind it hold
pub first : (bytes : List ℕ) (tag : ℕ) (content rest : List ℕ) (v : Value) → bytes ≡ tag ∷ content → BeginsWith (value_at tag content) content v rest
    → unpacked bytes ≡ v ∷ unpacked rest
first bytes tag content rest v is at =
    ap unpacked is ∙ ap (λ o. begun_by o (λ n. unpacked_behind n content)) at.1 ∙ ap (λ vs. v ∷ vs) (behind at.0 content ∙ ap unpacked (sym at.2))

carried : {vs ws : List Value} → vs ≡ ws → HasTexts vs → HasTexts ws
carried same texts = rw (← same) texts

pub texts : (bytes : List ℕ) (tag : ℕ) (content rest : List ℕ) (v : Value) → bytes ≡ tag ∷ content → BeginsWith (value_at tag content) content v rest
    → HasTexts (unpacked bytes) → HasTexts (v ∷ unpacked rest)
texts bytes tag content rest v is at have = carried (first bytes tag content rest v is at) have

-- so one less is left
pub shorter : (vs : List Value) (v : Value) (ws : List Value) → vs ≡ v ∷ ws → length ws < length vs
shorter vs v ws is = rw is (omega arith)

-- each value takes a byte at least
within_begun : (first : Option (Value × ℕ)) (bs : List ℕ) → ((n : ℕ) → length (unpacked_behind n bs) ≤ length bs)
    → length (begun_by first (λ n. unpacked_behind n bs)) ≤ suc (length bs)
within_begun None bs behind = omega arith
within_begun (Some p) bs behind = omega (arith, behind p.1)

within_behind : (n : ℕ) (bs : List ℕ) → length (unpacked_behind n bs) ≤ length bs
within_behind n [] = omega arith
within_behind (suc n) (b ∷ bs) = omega (arith, within_behind n bs)
within_behind zero (b ∷ bs) = within_begun (value_at b bs) bs (λ n. within_behind n bs)

pub within : (bs : List ℕ) → length (unpacked bs) ≤ length bs
within bs = within_behind 0 bs

-- the texts are no longer than the bytes that hold them
abbrev TextFits : Option (Value × ℕ) → List ℕ → Type 0
TextFits first bs = IfSome first (λ p. (text_length p.0 ≤ p.1) × ((text_length p.0 ≡ 0) ⊎ (p.1 ≤ length bs)))

unless : (b : Bool) (first : Value × ℕ) (bs : List ℕ) → (b ≡ false → TextFits (Some first) bs) → TextFits (if b then None else Some first) bs
unless true first bs fits = tt
unless false first bs fits = fits refl

either_fits : (b : Bool) (x y : Option (Value × ℕ)) (bs : List ℕ) → TextFits x bs → TextFits y bs → TextFits (if b then x else y) bs
either_fits true x y bs fits others = fits
either_fits false x y bs fits others = others

text_fits : (n : ℕ) (bs : List ℕ) → TextFits (text_of_length n bs) bs
text_fits n bs = unless (nat_lt (length bs) (4 + n)) (Text (take n (drop 4 bs)), 4 + n) bs (λ long.
    let taken = length-take n (drop 4 bs) in
    (omega (arith, taken), inr (ltb-false (length bs) (4 + n) long)))

value_fits : (tag : ℕ) (bs : List ℕ) → TextFits (value_at tag bs) bs
value_fits tag bs =
    either_fits (tag == 0) _ _ bs (unless (nat_lt (length bs) 8) _ bs (λ long. (omega arith, inl refl)))
    (either_fits (tag == 1) _ _ bs (text_fits (from_le_bytes w32 (take 4 bs)) bs)
    (either_fits (tag == 2) _ _ bs (omega arith, inl refl) (either_fits (tag == 3) _ _ bs (omega arith, inl refl) tt)))

begun_fits : (first : Option (Value × ℕ)) (bs : List ℕ) → TextFits first bs → ((n : ℕ) → texts_length (unpacked_behind n bs) ≤ length bs - n)
    → texts_length (begun_by first (λ n. unpacked_behind n bs)) ≤ suc (length bs)
begun_fits None bs fits behind = omega arith
begun_fits (Some p) bs fits behind = elim fits.1 [
  | inl none ↦ omega (arith, none, behind p.1)
  | inr within ↦ omega (arith, fits.0, within, behind p.1)
]

behind_fits : (n : ℕ) (bs : List ℕ) → texts_length (unpacked_behind n bs) ≤ length bs - n
behind_fits n [] = omega arith
behind_fits (suc n) (b ∷ bs) = omega (arith, behind_fits n bs)
behind_fits zero (b ∷ bs) = omega (arith, begun_fits (value_at b bs) bs (value_fits b bs) (λ n. behind_fits n bs))

pub texts_fit : (bs : List ℕ) → texts_length (unpacked bs) ≤ length bs
texts_fit bs = omega (arith, behind_fits 0 bs)

-- a text is one, where the bytes hold texts
pub is_text : (bytes : List ℕ) (tag : ℕ) (content : List ℕ) → bytes ≡ tag ∷ content → HasTexts (unpacked bytes)
    → (v : Value) (n : ℕ) → value_at tag content ≡ Some (v, n) → IsText v
is_text bytes tag content is have v n at = (texts bytes tag content (drop n content) v is (n, at, refl) have).0

-- a number of eight bytes
pub int_begins : (bs rest : List ℕ) (n : ℤ) → length rest + 8 ≡ length bs → rest ≡ drop 8 bs → n ≡ cast_signed w64 (from_le_bytes w64 (take 8 bs))
    → BeginsWith (int_at bs) bs (Int n) rest
int_begins bs rest n long is_rest is = (
  8,
  ap (λ b. if b then None else Some (Int (cast_signed w64 (from_le_bytes w64 (take 8 bs))), 8)) (le-ltb (length bs) 8 (omega arith))
      ∙ ap (λ z. Some (Int z, 8)) (sym is),
  is_rest,
)

-- bytes hold what they were packed of
pub int_unpacked : (n : ℤ) (rest : List ℕ) → FitsSigned w64 n → unpacked (packed_value (Int n) ++ rest) ≡ Int n ∷ unpacked rest
int_unpacked n rest fits =
    let eight = to_le_bytes w64 (cast_unsigned w64 n) in
    let whole = ap (cast_signed w64) (from_le_bytes-to_le_bytes_8 (cast_unsigned w64 n) (Fits-lt-pow (Fits-of_z {w = w64} {z = n} fits)))
    ∙ to_z-of_z w64 n fits in
    first (0 ∷ eight ++ rest) 0 (eight ++ rest) rest (Int n) refl (int_begins (eight ++ rest) rest n (omega arith) refl (sym whole))

long : (bytes rest : List ℕ) → 4 + length bytes ≤ length (to_le_bytes w32 (length bytes) ++ (bytes ++ rest))
long bytes rest = rw (length-append bytes rest) (omega arith)

text_begins : (bytes rest : List ℕ) → length bytes < 2 ^ 32 → text_at (to_le_bytes w32 (length bytes) ++ (bytes ++ rest)) ≡ Some (Text bytes, 4 + length bytes)
text_begins bytes rest short =
    let four = to_le_bytes w32 (length bytes) in
    ap (λ n. text_of_length n (four ++ (bytes ++ rest))) (from_le_bytes-to_le_bytes_4 (length bytes) short)
    ∙ ap (λ b. if b then None else Some (Text (take (length bytes) (bytes ++ rest)), 4 + length bytes))
    (le-ltb (length (four ++ (bytes ++ rest))) (4 + length bytes) (long bytes rest))
    ∙ ap (λ t. Some (Text t, 4 + length bytes)) (take-append_seam bytes rest)

text_unpacked : (bytes rest : List ℕ) → length bytes < 2 ^ 32 → unpacked (packed_value (Text bytes) ++ rest) ≡ Text bytes ∷ unpacked rest
text_unpacked bytes rest short =
    let behind_tag = to_le_bytes w32 (length bytes) ++ (bytes ++ rest) in
    let is_rest = sym (drop_at (to_le_bytes w32 (length bytes) ++ bytes) rest (4 + length bytes) (omega arith)) in
    first (1 ∷ behind_tag) 1 behind_tag rest (Text bytes) refl (4 + length bytes, text_begins bytes rest short, is_rest)

value_unpacked : (v : Value) (rest : List ℕ) → IsPackable v → unpacked (packed_value v ++ rest) ≡ v ∷ unpacked rest
value_unpacked (Int n) rest packable = int_unpacked n rest packable
value_unpacked (Text bytes) rest packable = text_unpacked bytes rest packable.1
value_unpacked (Flag false) rest packable = refl
value_unpacked (Flag true) rest packable = refl

packed_unpacked : (vs : List Value) → ArePackable vs → unpacked (packed vs) ≡ vs
packed_unpacked [] packable = refl
packed_unpacked (v ∷ vs) packable = value_unpacked v (packed vs) packable.0 ∙ ap (λ ws. v ∷ ws) (packed_unpacked vs packable.1)

packable_text : (v : Value) → IsPackable v → IsText v
packable_text (Int n) packable = tt
packable_text (Text bytes) packable = packable.0
packable_text (Flag b) packable = tt

packable_texts : (vs : List Value) → ArePackable vs → HasTexts vs
packable_texts [] packable = tt
packable_texts (v ∷ vs) packable = (packable_text v packable.0, packable_texts vs packable.1)

-- bytes that were packed hold what they were packed of
pub holds_all : (bytes old : List ℕ) (vs : List Value) → old ≡ [] → bytes ≡ old ++ packed vs → ArePackable vs → unpacked bytes ≡ vs
holds_all bytes old vs none are packable = ap unpacked (are ∙ ap (λ bs. bs ++ packed vs) none) ∙ packed_unpacked vs packable

pub holds_texts : (bytes old : List ℕ) (vs : List Value) → old ≡ [] → bytes ≡ old ++ packed vs → ArePackable vs → HasTexts (unpacked bytes)
holds_texts bytes old vs none are packable = carried (sym (holds_all bytes old vs none are packable)) (packable_texts vs packable)

-- when no value is left, all are packed
left_packable : (left : List Value) → left ≡ [] → ArePackable left
left_packable left none = rw none tt

pub all_packed : (bytes old : List ℕ) (vs left : List Value) → left ≡ [] → bytes ++ packed left ≡ old ++ packed vs → (ArePackable left → ArePackable vs)
    → (bytes ≡ old ++ packed vs) × ArePackable vs
all_packed bytes old vs left none are packable =
    (sym (append-nil bytes) ∙ ap (λ ws. bytes ++ packed ws) (sym none) ∙ are, packable (left_packable left none))

-- what was put behind a byte that was put behind others
pub put_behind : {E : Type 0} (r : Result (Unit {0}) E) (P : Type 0) (old mid new : List ℕ) (x : ℕ) (zs ys : List ℕ) → mid ≡ old ++ x ∷ []
    → OnOk r (new ≡ mid ++ zs) → zs ≡ ys → P → OnOk r ((new ≡ old ++ x ∷ ys) × P)
put_behind (Ok u) P old mid new x zs ys one more same p = (more ∙ ap (λ bs. bs ++ zs) one ∙ append_assoc old (x ∷ []) zs ∙ ap (λ bs. old ++ x ∷ bs) same, p)
put_behind (Err e) P old mid new x zs ys one more same p = tt

-- what holds where it is answered
pub answered : {E P : Type 0} (r : Result (Unit {0}) E) (b : Bool) → b ≡ is_ok r → b ≡ true → OnOk r P → P
answered (Ok u) b is true_is p = p
answered (Err e) b is true_is p = let no : true ≡ false = sym true_is ∙ is in absurd cc
