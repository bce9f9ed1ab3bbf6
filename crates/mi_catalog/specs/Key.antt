-- How rows and keys compare by the parts of an index.
use Rattle.std.specs.Prelude.{◌≡◌, ℕ, pos, false, List, [], ◌∷◌, length}
use Rattle.std.specs.declared.cmp.Ordering.{Ordering}
use Rattle.mi_value.specs.declared.value.Value.{Value}
use Rattle.mi_value.specs.declared.value.Value.TheVariants.{Int}
use Rattle.mi_value.specs.declared.compare.KeyPart.{KeyPart}
use Rattle.mi_value.specs.Order.{compare_key, compare_prefix}
use Rattle.mi_catalog.specs.declared.index.IndexKind.{IndexKind}
use Rattle.mi_catalog.specs.declared.index.IndexKind.TheVariants.{Hashed}

-- a row: its id and its record
abbrev pub Row : Type 0
Row = ℕ × List Value

-- the part that an index without parts goes by: the id alone
abbrev pub id_part : List KeyPart
id_part = record { column = 0; descending = false } ∷ []

-- the parts to compare by: those of the index, or the id alone where it has none
abbrev pub parts_or_id : List KeyPart → List KeyPart
parts_or_id [] = record { column = 0; descending = false } ∷ []
parts_or_id (p ∷ ps) = p ∷ ps

-- what they are read from: the row's record, or the id alone
abbrev pub record_or_id : List KeyPart → Row → List Value
record_or_id [] row = Int (pos row.0) ∷ []
record_or_id (p ∷ ps) row = row.1

-- two rows by their keys
abbrev pub compare_rows : List KeyPart → Row → Row → Ordering
compare_rows ps a b = compare_key (parts_or_id ps) (record_or_id ps a) (record_or_id ps b)

-- a key, or the first values of one, against the key of a row
abbrev pub compare_to_row : List KeyPart → List Value → Row → Ordering
compare_to_row ps key row = compare_prefix (parts_or_id ps) key (record_or_id ps row)

-- a key with one value for each part; that of an index without parts is the id
abbrev pub IsWholeKey : List KeyPart → List Value → Type 0
IsWholeKey ps key = length key ≡ length (parts_or_id ps)

-- a hashed index is asked by whole keys alone, any other also by the first values of a key
abbrev pub IsAskedBy : IndexKind → List KeyPart → List Value → Type 0
IsAskedBy Hashed ps key = IsWholeKey ps key
IsAskedBy kind ps key = Unit {0}
