-- Hashes of keys, part by part, and that equal keys have equal hashes.
-- Cited by `Record::key_hash`, `laws::equal_keys_have_equal_hashes`, `hash` and `mi_order`.
use Rattle.std.proofs.Common.{◌≡◌, Bool, true, false, List, [], ◌∷◌, length, slice_get, Option, Some, None, refl, ap, arith}
use Rattle.std.specs.List.{cons_option}
use Rattle.std.specs.declared.cmp.Ordering.{Ordering}
use Rattle.std.specs.declared.cmp.Ordering.TheVariants.{Less, Equal, Greater}
use Rattle.std.specs.Ordering.{bool_cmp, ordering_reverse, ordering_then}
use Rattle.std.proofs.lemmas.Map.Lookups.{exact_signed, exact_bytes}
use Rattle.core.specs.declared.hash.sip.DefaultHasher.{DefaultHasher}
use Rattle.mi_value.specs.declared.value.Value.{Value}
use Rattle.mi_value.specs.declared.value.Value.TheVariants.{Int, Text, Flag}
use Rattle.mi_value.specs.Order.{compare_value, compare_missing, directed, compare_part, compare_key, compare_to_part, compare_prefix}
use Rattle.mi_value.specs.declared.compare.KeyPart.{KeyPart}
use Rattle.mi_value.specs.Hash.{after_if, after_values, key_values, values_hash, EqualKeysHaveEqualHashes, KeysHaveTheirRecordsHash}

pub one_part : (state : DefaultHasher) (p : KeyPart) (ps : List KeyPart) (r : List Value)
    → after_values state (key_values (p ∷ ps) r) ≡ after_values (after_if state (slice_get r p.column)) (key_values ps r)
one_part state p ps r = elim (slice_get r p.column)
    as (λ o. after_values state (cons_option o (key_values ps r)) ≡ after_values (after_if state o) (key_values ps r)) [
      | None ↦ refl
      | Some v ↦ refl
    ]

reversed_equal : (o : Ordering) → ordering_reverse o ≡ Equal → o ≡ Equal
reversed_equal Less h = absurd (cc)
reversed_equal Equal h = refl
reversed_equal Greater h = absurd (cc)

directed_equal : (b : Bool) (o : Ordering) → directed b o ≡ Equal → o ≡ Equal
directed_equal true o h = reversed_equal o h
directed_equal false o h = h

bools_equal : (a b : Bool) → bool_cmp a b ≡ Equal → a ≡ b
bools_equal true true h = refl
bools_equal true false h = absurd (cc)
bools_equal false true h = absurd (cc)
bools_equal false false h = refl

values_equal : (a b : Value) → compare_value a b ≡ Equal → a ≡ b
values_equal (Int m) (Int n) h = ap Int (exact_signed m n h)
values_equal (Int m) (Text bs) h = absurd (cc)
values_equal (Int m) (Flag c) h = absurd (cc)
values_equal (Text ts) (Int n) h = absurd (cc)
values_equal (Text ts) (Text bs) h = ap Text (exact_bytes ts bs h)
values_equal (Text ts) (Flag c) h = absurd (cc)
values_equal (Flag b) (Int n) h = absurd (cc)
values_equal (Flag b) (Text bs) h = absurd (cc)
values_equal (Flag b) (Flag c) h = ap Flag (bools_equal b c h)

missing_equal : (a b : Option Value) → compare_missing a b ≡ Equal → a ≡ b
missing_equal None None h = refl
missing_equal None (Some y) h = absurd (cc)
missing_equal (Some x) None h = absurd (cc)
missing_equal (Some x) (Some y) h = ap Some (values_equal x y h)

then_equal : (a b : Ordering) → ordering_then a b ≡ Equal → (a ≡ Equal) × (b ≡ Equal)
then_equal Less b h = absurd (cc)
then_equal Equal b h = (refl, h)
then_equal Greater b h = absurd (cc)

-- records of one key have the same values there
pub equal_keys : (ps : List KeyPart) (r s : List Value) → compare_key ps r s ≡ Equal → key_values ps r ≡ key_values ps s
equal_keys [] r s h = refl
equal_keys (p ∷ ps) r s h =
    let both = then_equal (compare_part p r s) (compare_key ps r s) h in
    let here : slice_get r p.column ≡ slice_get s p.column = missing_equal (slice_get r p.column) (slice_get s p.column)
    (directed_equal p.descending (compare_missing (slice_get r p.column) (slice_get s p.column)) both.0) in
    λ i. cons_option (here i) (equal_keys ps r s both.1 i)

-- and so one hash
pub equal_hashes : EqualKeysHaveEqualHashes
equal_hashes ps r s h = ap values_hash (equal_keys ps r s h)

-- a whole key that equals a record's is its values there
pub whole_key : (ps : List KeyPart) (key r : List Value) → length key ≡ length ps → compare_prefix ps key r ≡ Equal → key ≡ key_values ps r
whole_key [] [] r long h = refl
whole_key [] (v ∷ key) r long h = absurd (cc)
whole_key (p ∷ ps) [] r long h = absurd (omega arith)
whole_key (p ∷ ps) (v ∷ key) r long h =
    let both : (compare_to_part p v r ≡ Equal) × (compare_prefix ps key r ≡ Equal) = then_equal (compare_to_part p v r) (compare_prefix ps key r) h in
    let here : Some v ≡ slice_get r p.column = missing_equal (Some v) (slice_get r p.column)
    (directed_equal p.descending (compare_missing (Some v) (slice_get r p.column)) both.0) in
    λ i. cons_option (here i) (whole_key ps key r (omega arith) both.1 i)

pub key_hashes : KeysHaveTheirRecordsHash
key_hashes ps key r long h = ap values_hash (whole_key ps key r long h)
