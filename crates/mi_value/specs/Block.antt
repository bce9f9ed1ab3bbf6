-- A record's bytes: its values one behind another, each a tag and its content.
--     packed       the bytes that hold values
--     unpacked     the values that bytes hold
use Rattle.std.specs.Prelude.{◌≡◌, ℕ, zero, suc, ◌<◌, ◌+◌, ◌^◌, ◌==◌, nat_lt, true, false, List}
use Rattle.std.specs.Prelude.{[], ◌∷◌, ◌++◌, length, take, drop, Option, Some, None, if◌then◌else◌, FitsSigned, IsUtf8, ⊤}
use Rattle.std.specs.List.{AllByRecursion}
use Rattle.std.specs.Int.{w32, w64, from_le_bytes, to_le_bytes, cast_signed, cast_unsigned}
use Rattle.mi_value.specs.declared.value.Value.{Value}
use Rattle.mi_value.specs.declared.value.Value.TheVariants.{Int, Text, Flag}

-- a number has the tag 0, a text 1, false 2 and true 3
abbrev pub packed_value : Value → List ℕ
packed_value (Int n) = 0 ∷ to_le_bytes w64 (cast_unsigned w64 n)
packed_value (Text bytes) = 1 ∷ to_le_bytes w32 (length bytes) ++ bytes
packed_value (Flag false) = 2 ∷ []
packed_value (Flag true) = 3 ∷ []

abbrev pub packed : List Value → List ℕ
packed [] = []
packed (v ∷ vs) = packed_value v ++ packed vs

-- what stands behind a tag, and how many bytes it takes
abbrev pub int_at : List ℕ → Option (Value × ℕ)
int_at bs = if nat_lt (length bs) 8 then None else Some (Int (cast_signed w64 (from_le_bytes w64 (take 8 bs))), 8)

abbrev pub text_of_length : ℕ → List ℕ → Option (Value × ℕ)
text_of_length n bs = if nat_lt (length bs) (4 + n) then None else Some (Text (take n (drop 4 bs)), 4 + n)

abbrev pub text_at : List ℕ → Option (Value × ℕ)
text_at bs = text_of_length (from_le_bytes w32 (take 4 bs)) bs

abbrev pub value_at : ℕ → List ℕ → Option (Value × ℕ)
value_at tag bs =
    if tag == 0 then int_at bs
    else if tag == 1 then text_at bs
    else if tag == 2 then Some (Flag false, 0)
    else if tag == 3 then Some (Flag true, 0)
    else None

-- a value before those behind it, or none where there is none
abbrev pub begun_by : Option (Value × ℕ) → (ℕ → List Value) → List Value
begun_by None behind = []
begun_by (Some first) behind = first.0 ∷ behind first.1

-- the values behind so many bytes
abbrev pub unpacked_behind : ℕ → List ℕ → List Value
unpacked_behind n [] = []
unpacked_behind (suc n) (b ∷ bs) = unpacked_behind n bs
unpacked_behind zero (b ∷ bs) = begun_by (value_at b bs) (λ n. unpacked_behind n bs)

abbrev pub unpacked : List ℕ → List Value
unpacked bs = unpacked_behind 0 bs

-- a text is one
abbrev pub IsText : Value → Type 0
IsText (Int n) = ⊤
IsText (Text bytes) = IsUtf8 bytes
IsText (Flag b) = ⊤

abbrev pub HasTexts : List Value → Type 0
HasTexts vs = AllByRecursion IsText vs

-- these bytes begin with this value, and the rest is behind it
abbrev pub BeginsWith : Option (Value × ℕ) → List ℕ → Value → List ℕ → Type 0
BeginsWith first bytes v rest = (n : ℕ) × (first ≡ Some (v, n)) × (rest ≡ drop n bytes)

-- a value that a record can hold: a text has less than 2^32 bytes
abbrev pub IsPackable : Value → Type 0
IsPackable (Int n) = FitsSigned w64 n
IsPackable (Text bytes) = IsUtf8 bytes × (length bytes < 2 ^ 32)
IsPackable (Flag b) = ⊤

abbrev pub ArePackable : List Value → Type 0
ArePackable vs = AllByRecursion IsPackable vs

-- the bytes of the texts among values
abbrev pub text_length : Value → ℕ
text_length (Int n) = 0
text_length (Text bytes) = length bytes
text_length (Flag b) = 0

abbrev pub texts_length : List Value → ℕ
texts_length [] = 0
texts_length (v ∷ vs) = text_length v + texts_length vs
