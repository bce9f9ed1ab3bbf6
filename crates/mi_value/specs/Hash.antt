-- The hashes of values and keys.
--     value_input      what a value puts into the hash
--     key_values      the values of a record at the parts of a key, missing ones left out
use Rattle.std.specs.Prelude.{◌≡◌, ℕ, List, [], ◌∷◌, ◌++◌, length, slice_get, fold, Option, Some, None}
use Rattle.std.specs.List.{filter_map}
use Rattle.std.specs.Hash as fed
use Rattle.std.specs.Hash.DefaultHasher as sip
use Rattle.core.specs.declared.hash.sip.DefaultHasher.{DefaultHasher}
use Rattle.mi_value.specs.declared.value.Value.{Value}
use Rattle.mi_value.specs.declared.value.Value.TheVariants.{Int, Text, Flag}
use Rattle.mi_value.specs.declared.compare.KeyPart.{KeyPart}
use Rattle.mi_value.specs.Order.{compare_key, compare_prefix}
use Rattle.std.specs.declared.cmp.Ordering.TheVariants.{Equal}

abbrev pub value_input : Value → List (List ℕ)
value_input (Int n) = fed.u8 0 ++ fed.i64 n
value_input (Text bytes) = fed.u8 1 ++ fed.str bytes
value_input (Flag b) = fed.u8 2 ++ fed.bool b

-- the hasher after a value, if there is one
abbrev pub after_if : DefaultHasher → Option Value → DefaultHasher
after_if state None = state
after_if state (Some v) = fold sip.write state (value_input v)

-- the hasher after the values
abbrev pub after_values : DefaultHasher → List Value → DefaultHasher
after_values state [] = state
after_values state (v ∷ vs) = after_values (fold sip.write state (value_input v)) vs

unfoldable pub values_hash : List Value → ℕ
values_hash vs = sip.finish (after_values sip.initial vs)

abbrev pub key_values : List KeyPart → List Value → List Value
key_values ps r = filter_map (λ p. slice_get r p.column) ps

-- records of one key have one hash of it
abbrev pub EqualKeysHaveEqualHashes : Type 0
EqualKeysHaveEqualHashes = (ps : List KeyPart) (r s : List Value) → compare_key ps r s ≡ Equal → values_hash (key_values ps r) ≡ values_hash (key_values ps s)

-- a whole key has the hash of each record that has this key
abbrev pub KeysHaveTheirRecordsHash : Type 0
KeysHaveTheirRecordsHash =
    (ps : List KeyPart) (key r : List Value) → length key ≡ length ps → compare_prefix ps key r ≡ Equal → values_hash key ≡ values_hash (key_values ps r)
