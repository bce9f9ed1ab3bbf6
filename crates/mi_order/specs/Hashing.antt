-- The hash of a key under a secret: a function of the secret and of the key's values.
--     text_words, value_words      a text and a value as a list of numbers, each of at most eight bytes
--     after_word, after_value, after_if      the state behind a number, behind a value's, and behind those of a value if there is one
--     values_hash      the hash of a list of values
--     EqualKeysHaveEqualHashes, KeysHaveTheirRecordsHash      what it owes to keys
use Rattle.std.specs.Prelude.{◌≡◌, ℕ, ◌+◌, ◌*◌, ◌/◌, ◌%◌, ◌^◌, bit_xor, bit_or, List, [], ◌∷◌, ◌++◌, length, drop, map, fold, Option, Some, None}
use Rattle.std.specs.Int.{w64, cast_unsigned, from_le_bytes, from_bool}
use Rattle.std.specs.Simd.{first_chunks}
use Rattle.std.specs.declared.cmp.Ordering.TheVariants.{Equal}
use Rattle.mi_value.specs.declared.value.Value.{Value}
use Rattle.mi_value.specs.declared.value.Value.TheVariants.{Int, Text, Flag}
use Rattle.mi_value.specs.declared.compare.KeyPart.{KeyPart}
use Rattle.mi_value.specs.Order.{compare_key, compare_prefix}
use Rattle.mi_value.specs.Hash.{key_values}

-- an odd number without a pattern
abbrev pub GOLDEN : ℕ
GOLDEN = 0x9E37_79B9_7F4A_7C15

-- both halves of a product, one over the other
abbrev pub folded : ℕ → ℕ → ℕ
folded factor n = bit_xor (n * factor % 2 ^ 64) (n * factor / 2 ^ 64)

-- the odd number by which words are multiplied under a secret
abbrev pub factor_of : ℕ → ℕ
factor_of secret = bit_or (folded GOLDEN (bit_xor secret GOLDEN)) 1

-- bytes as a number, the last of them lowest
abbrev pub number_of : List ℕ → ℕ
number_of bs = fold (λ n b. (n * 256 % 2 ^ 64 + b) % 2 ^ 64) 0 bs

-- the length comes first, so that no text's words begin another's
abbrev pub text_words : List ℕ → List ℕ
text_words bs = length bs ∷ map (from_le_bytes w64) (first_chunks 8 (length bs / 8) bs) ++ number_of (drop (length bs / 8 * 8) bs) ∷ []

abbrev pub value_words : Value → List ℕ
value_words (Int n) = cast_unsigned w64 n ∷ []
value_words (Text bs) = text_words bs
value_words (Flag b) = from_bool b ∷ []

abbrev pub after_word : ℕ → ℕ → ℕ → ℕ
after_word factor state word = folded factor (bit_xor state word)

abbrev pub after_value : ℕ → ℕ → Value → ℕ
after_value factor state v = fold (after_word factor) state (value_words v)

abbrev pub after_if : ℕ → ℕ → Option Value → ℕ
after_if factor state None = state
after_if factor state (Some v) = after_value factor state v

-- from the secret on, and folded with it once more
unfoldable pub values_hash : ℕ → List Value → ℕ
values_hash secret vs = folded (factor_of secret) (bit_xor (fold (after_value (factor_of secret)) secret vs) secret)

-- records of one key have one hash of it
abbrev pub EqualKeysHaveEqualHashes : Type 0
EqualKeysHaveEqualHashes =
    (secret : ℕ) (ps : List KeyPart) (r s : List Value) → compare_key ps r s ≡ Equal → values_hash secret (key_values ps r) ≡ values_hash secret (key_values ps s)

-- a whole key has the hash of each record that has this key
abbrev pub KeysHaveTheirRecordsHash : Type 0
KeysHaveTheirRecordsHash =
    (secret : ℕ) (ps : List KeyPart) (key r : List Value) → length key ≡ length ps → compare_prefix ps key r ≡ Equal
    → values_hash secret key ≡ values_hash secret (key_values ps r)
