-- Which records, edits, keys and bounds fit a schema.
use Rattle.std.specs.Prelude.{Bool, true, false, ◌&&◌, ◌==◌, nat_le, not, List, [], ◌∷◌, length, slice_get}
use Rattle.std.specs.Option.{option_map_or}
use Rattle.mi_value.specs.declared.value.Value.{Value}
use Rattle.mi_value.specs.declared.value.Value.TheVariants.{Int, Text, Flag}
use Rattle.mi_value.specs.declared.value.ColumnType.{ColumnType}
use Rattle.mi_value.specs.declared.value.ColumnType.TheVariants as column
use Rattle.mi_value.specs.declared.edit.Edit.{Edit}
use Rattle.mi_value.specs.declared.edit.Edit.TheVariants.{Put, Add}
use Rattle.mi_value.specs.declared.compare.KeyPart.{KeyPart}
use Rattle.mi_value.specs.declared.bound.Lower.{Lower}
use Rattle.mi_value.specs.declared.bound.Lower.TheVariants as lower
use Rattle.mi_value.specs.declared.bound.Upper.{Upper}
use Rattle.mi_value.specs.declared.bound.Upper.TheVariants as upper
use Rattle.mi_value.specs.declared.limits.TheConstants.{MAX_TEXT}
use Rattle.mi_catalog.specs.declared.index.Column.{Column}

-- a text has at most 1,024 bytes
abbrev pub fits_type : ColumnType → Value → Bool
fits_type column.Int (Int n) = true
fits_type column.Text (Text bytes) = nat_le (length bytes) MAX_TEXT
fits_type column.Flag (Flag b) = true
fits_type kind v = false

-- a value for each column, and no more
abbrev pub fits_record : List Column → List Value → Bool
fits_record [] [] = true
fits_record (c ∷ cs) (v ∷ vs) = fits_type c.kind v && fits_record cs vs
fits_record cs vs = false

abbrev pub is_int : ColumnType → Bool
is_int column.Int = true
is_int column.Text = false
is_int column.Flag = false

-- an edit of a column that is there: a value that fits, or an addition to an `int`
abbrev pub fits_edit : List Column → Edit → Bool
fits_edit cs (Put x v) = option_map_or (λ c. fits_type c.kind v) (slice_get cs x) false
fits_edit cs (Add x n) = option_map_or (λ c. is_int c.kind) (slice_get cs x) false

-- a value for the column of a part
abbrev pub fits_part : List Column → KeyPart → Value → Bool
fits_part cs p v = option_map_or (λ c. fits_type c.kind v) (slice_get cs p.column) false

-- a value for each of the first parts
abbrev pub fits_parts : List Column → List KeyPart → List Value → Bool
fits_parts cs ps [] = true
fits_parts cs [] (v ∷ vs) = false
fits_parts cs (p ∷ ps) (v ∷ vs) = fits_part cs p v && fits_parts cs ps vs

-- the key of the index `id` is one whole number
abbrev pub is_id_key : List Value → Bool
is_id_key (Int n ∷ []) = true
is_id_key key = false

-- one value up to one per part, or where the whole key is wanted one per part; an index without parts goes by the id
abbrev pub fits_key : List Column → List KeyPart → Bool → List Value → Bool
fits_key cs [] whole key = is_id_key key
fits_key cs (p ∷ ps) true key = (length key == length (p ∷ ps)) && fits_parts cs (p ∷ ps) key
fits_key cs (p ∷ ps) false key = not (length key == 0) && fits_parts cs (p ∷ ps) key

-- the key of a bound, or the first values of one
abbrev pub fits_lower : List Column → List KeyPart → Lower → Bool
fits_lower cs ps lower.All = true
fits_lower cs ps (lower.From key) = fits_key cs ps false key
fits_lower cs ps (lower.Beyond key) = fits_key cs ps false key

abbrev pub fits_upper : List Column → List KeyPart → Upper → Bool
fits_upper cs ps upper.All = true
fits_upper cs ps (upper.UpTo key) = fits_key cs ps false key
fits_upper cs ps (upper.Below key) = fits_key cs ps false key
