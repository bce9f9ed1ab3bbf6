-- Tags: numbers below 2^64 that stand for keys, in their order.
--     value_tag      of a value in a column of a type: a smaller tag is less; values of another type are below or above all
--     part_tag      of the first part of a key, turned round where it descends
--     is_exact      whether a tag says all of its value
use Rattle.std.specs.Prelude.{◌≡◌, ◌<◌, ℕ, ℤ, pos, negsuc, ◌+◌, ◌-◌, ◌*◌, ◌^◌, zero, suc, nat_lt, min}
use Rattle.std.specs.Prelude.{Bool, true, false, ◌&&◌, if◌then◌else◌, List, [], ◌∷◌, slice_get}
use Rattle.std.specs.declared.cmp.Ordering.TheVariants.{Less, Equal, Greater}
use Rattle.std.specs.declared.option.Option.{Option}
use Rattle.std.specs.declared.option.Option.TheVariants.{None, Some}
use Rattle.mi_value.specs.declared.value.Value.{Value}
use Rattle.mi_value.specs.declared.value.Value.TheVariants.{Int, Text, Flag}
use Rattle.mi_value.specs.declared.value.ColumnType.{ColumnType}
use Rattle.mi_value.specs.declared.value.ColumnType.TheVariants as column
use Rattle.mi_value.specs.declared.compare.KeyPart.{KeyPart}
use Rattle.mi_value.specs.Order.{compare_key, compare_prefix}

-- the greatest tag
abbrev pub high : ℕ
high = 2 ^ 64 - 1

-- the whole numbers of 64 bits by their distance from the least
abbrev pub int_tag : ℤ → ℕ
int_tag (pos n) = min (2 ^ 63 + n) high
int_tag (negsuc n) = 2 ^ 63 - 1 - n

-- the worth of a byte with n bytes behind it
abbrev pub worth : ℕ → ℕ
worth zero = 1
worth (suc n) = 256 * worth n

-- the number that the first n bytes are, filled with zeros; past a byte, which is below 256, nothing is greater
abbrev pub prefix : ℕ → List ℕ → ℕ
prefix zero bs = 0
prefix (suc n) [] = 0
prefix (suc n) (b ∷ bs) = if nat_lt b 256 then b * worth n + prefix n bs else 256 * worth n - 1

abbrev pub flag_tag : Bool → ℕ
flag_tag false = 1
flag_tag true = 2

-- a value, or a missing one, in a column of a type
abbrev pub value_tag : ColumnType → Option Value → ℕ
value_tag c None = 0
value_tag column.Int (Some (Int n)) = int_tag n
value_tag column.Int (Some (Text bs)) = high
value_tag column.Int (Some (Flag b)) = high
value_tag column.Text (Some (Int n)) = 0
value_tag column.Text (Some (Text bs)) = prefix 8 bs
value_tag column.Text (Some (Flag b)) = high
value_tag column.Flag (Some (Int n)) = 0
value_tag column.Flag (Some (Text bs)) = 0
value_tag column.Flag (Some (Flag b)) = flag_tag b

-- a descending part turns its tags round
abbrev pub directed_tag : Bool → ℕ → ℕ
directed_tag descending t = if descending then high - t else t

-- the value of a part, in a column of a type
abbrev pub probe_tag : ColumnType → KeyPart → Value → ℕ
probe_tag c p v = directed_tag p.descending (value_tag c (Some v))

-- the part of a record
abbrev pub part_tag : ColumnType → KeyPart → List Value → ℕ
part_tag c p r = directed_tag p.descending (value_tag c (slice_get r p.column))

-- a whole number within the least and the greatest, or a flag, is all that has its tag
abbrev pub is_exact_value : ColumnType → ℕ → Bool
is_exact_value column.Int t = nat_lt 0 t && nat_lt t high
is_exact_value column.Text t = false
is_exact_value column.Flag t = nat_lt 0 t

abbrev pub is_exact : ColumnType → KeyPart → ℕ → Bool
is_exact c p t = is_exact_value c (directed_tag p.descending t)

-- The laws of tags

-- of two records the one with the smaller tag is less, by every key that begins with the part
abbrev pub TagsOrderKeys : Type 0
TagsOrderKeys = (c : ColumnType) (p : KeyPart) (ps : List KeyPart) (r s : List Value) → part_tag c p r < part_tag c p s → compare_key (p ∷ ps) r s ≡ Less

-- two that have one exact tag are equal by a key of this part alone
abbrev pub ExactTagsAreKeys : Type 0
ExactTagsAreKeys = (c : ColumnType) (p : KeyPart) (r s : List Value)
    → is_exact c p (part_tag c p r) ≡ true → part_tag c p r ≡ part_tag c p s → compare_key (p ∷ []) r s ≡ Equal

-- a key that begins with a value is greater than the records of a smaller tag than its own, and less than those of a greater one
abbrev pub TagsOrderProbes : Type 0
TagsOrderProbes = (c : ColumnType) (p : KeyPart) (ps : List KeyPart) (v : Value) (vs r : List Value)
    → (part_tag c p r < probe_tag c p v → compare_prefix (p ∷ ps) (v ∷ vs) r ≡ Greater)
    × (probe_tag c p v < part_tag c p r → compare_prefix (p ∷ ps) (v ∷ vs) r ≡ Less)

-- and one of a value alone is that of the records of its own tag, where that is exact
abbrev pub ExactTagsAreProbes : Type 0
ExactTagsAreProbes = (c : ColumnType) (p : KeyPart) (ps : List KeyPart) (v : Value) (r : List Value)
    → is_exact c p (probe_tag c p v) ≡ true → part_tag c p r ≡ probe_tag c p v → compare_prefix (p ∷ ps) (v ∷ []) r ≡ Equal
