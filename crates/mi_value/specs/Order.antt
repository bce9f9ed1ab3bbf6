-- How values, keys and prefixes of keys compare.
use Rattle.std.specs.Prelude.{Bool, List, [], ◌∷◌, slice_get, if◌then◌else◌}
use Rattle.std.specs.declared.option.Option.{Option}
use Rattle.std.specs.declared.option.Option.TheVariants.{Some}
use Rattle.std.specs.Option.{option_cmp}
use Rattle.std.specs.Ordering.{nat_cmp, int_cmp, bool_cmp, ordering_then, ordering_reverse}
use Rattle.std.specs.Cmp.Lexicographic.{slice_cmp}
use Rattle.std.specs.declared.cmp.Ordering.{Ordering}
use Rattle.std.specs.declared.cmp.Ordering.TheVariants.{Less, Equal, Greater}
use Rattle.mi_value.specs.declared.value.Value.{Value}
use Rattle.mi_value.specs.declared.value.Value.TheVariants.{Int, Text, Flag}
use Rattle.mi_value.specs.declared.compare.KeyPart.{KeyPart}

-- whole numbers by value, texts by their bytes, false before true; of two types Int first, then Text, then Flag
abbrev pub compare_value : Value → Value → Ordering
compare_value (Int a) (Int b) = int_cmp a b
compare_value (Int a) b = Less
compare_value (Text a) (Int b) = Greater
compare_value (Text a) (Text b) = slice_cmp nat_cmp a b
compare_value (Text a) (Flag b) = Less
compare_value (Flag a) (Flag b) = bool_cmp a b
compare_value (Flag a) b = Greater

-- a missing value equals another missing one and is less than any other
abbrev pub compare_missing : Option Value → Option Value → Ordering
compare_missing = option_cmp compare_value

-- a descending part turns its comparison round
abbrev pub directed : Bool → Ordering → Ordering
directed descending o = if descending then ordering_reverse o else o

-- two records by one part of a key
abbrev pub compare_part : KeyPart → List Value → List Value → Ordering
compare_part p r s = directed p.descending (compare_missing (slice_get r p.column) (slice_get s p.column))

-- two records by the parts of a key, part by part
abbrev pub compare_key : List KeyPart → List Value → List Value → Ordering
compare_key [] r s = Equal
compare_key (p ∷ ps) r s = ordering_then (compare_part p r s) (compare_key ps r s)

-- the first value of a key against a record, by one part
abbrev pub compare_to_part : KeyPart → Value → List Value → Ordering
compare_to_part p v r = directed p.descending (compare_missing (Some v) (slice_get r p.column))

-- the values of a key, or the first of them, against a record, on the key's own length
abbrev pub compare_prefix : List KeyPart → List Value → List Value → Ordering
compare_prefix ps [] r = Equal
compare_prefix [] (v ∷ vs) r = Greater
compare_prefix (p ∷ ps) (v ∷ vs) r = ordering_then (compare_to_part p v r) (compare_prefix ps vs r)
