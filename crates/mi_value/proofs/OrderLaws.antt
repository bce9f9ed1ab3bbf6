-- Keys stand in a total order.
-- Cited by `mi_container`, `mi_index`, `mi_model`, `mi_multi` and `mi_order`.
use Rattle.std.proofs.Common.{◌≡◌, ℕ, ℤ, pos, Bool, true, false, List, [], ◌∷◌, slice_get, refl, ap, ◌∙◌, subst}
use Rattle.std.specs.declared.cmp.Ordering.{Ordering}
use Rattle.std.specs.declared.cmp.Ordering.TheVariants.{Less, Equal, Greater}
use Rattle.std.specs.Ordering.{nat_cmp, int_cmp, bool_cmp, ordering_then, ordering_reverse, then_cmp, on, flip_args}
use Rattle.std.specs.declared.option.Option.TheVariants.{Some}
use Rattle.std.specs.Cmp.{alike_right, IsTotalOrder, then_total, on_total, back_total, nat_cmp_total, int_cmp_total, bool_cmp_total}
use Rattle.std.specs.Cmp.Lexicographic.{slice_cmp, nat_list_cmp_total, options_total}
use Rattle.mi_value.specs.declared.value.Value.{Value}
use Rattle.mi_value.specs.declared.value.Value.TheVariants.{Int, Text, Flag}
use Rattle.mi_value.specs.declared.compare.KeyPart.{KeyPart}
use Rattle.mi_value.specs.Order.{compare_value, compare_missing, directed, compare_part, compare_key, compare_to_part, compare_prefix}

abbrev type_number : Value → ℕ
type_number (Int n) = 0
type_number (Text bytes) = 1
type_number (Flag b) = 2

abbrev int_of : Value → ℤ
int_of (Int n) = n
int_of v = pos 0

abbrev text_of : Value → List ℕ
text_of (Text bytes) = bytes
text_of v = []

abbrev flag_of : Value → Bool
flag_of (Flag b) = b
flag_of v = false

-- by type, then by what is in it
abbrev in_turn : Value → Value → Ordering
in_turn = then_cmp (on type_number nat_cmp) (then_cmp (on int_of int_cmp) (then_cmp (on text_of (slice_cmp nat_cmp)) (on flag_of bool_cmp)))

then_equal : (o : Ordering) → ordering_then o Equal ≡ o
then_equal Less = refl
then_equal Equal = refl
then_equal Greater = refl

in_turn_is : (a b : Value) → in_turn a b ≡ compare_value a b
in_turn_is (Int m) (Int n) = then_equal (int_cmp m n)
in_turn_is (Int m) (Text bs) = refl
in_turn_is (Int m) (Flag c) = refl
in_turn_is (Text ts) (Int n) = refl
in_turn_is (Text ts) (Text bs) = then_equal (slice_cmp nat_cmp ts bs)
in_turn_is (Text ts) (Flag c) = refl
in_turn_is (Flag b) (Int n) = refl
in_turn_is (Flag b) (Text bs) = refl
in_turn_is (Flag b) (Flag c) = refl

-- two comparisons that agree are both total orders
same_total : {K : Type 0} (R S : K → K → Ordering) → ((x y : K) → R x y ≡ S x y) → IsTotalOrder R → IsTotalOrder S
same_total R S same o = subst IsTotalOrder (λ i x y. same x y i) o

compare_value_total : IsTotalOrder compare_value
compare_value_total =
    same_total in_turn compare_value in_turn_is
    (then_total (on_total type_number nat_cmp_total)
    (then_total (on_total int_of int_cmp_total) (then_total (on_total text_of nat_list_cmp_total) (on_total flag_of bool_cmp_total))))

-- values that may be missing, in either direction
pub directed_total : (descending : Bool) → IsTotalOrder (λ a b. directed descending (compare_missing a b))
directed_total false = options_total compare_value_total
directed_total true =
    let up : IsTotalOrder compare_missing = options_total compare_value_total in
    same_total (flip_args compare_missing) (λ a b. ordering_reverse (compare_missing a b)) (λ a b. up.antisymm b a) (back_total up)

compare_part_total : (p : KeyPart) → IsTotalOrder (compare_part p)
compare_part_total p = on_total (λ (r : List Value). slice_get r p.column) (directed_total p.descending)

equal_total : {K : Type 0} → IsTotalOrder (λ (x y : K). Equal)
equal_total = record { antisymm = λ x y. refl; trans = λ x y z h k. h; congr = λ x y z h. refl }

pub compare_key_total : (ps : List KeyPart) → IsTotalOrder (compare_key ps)
compare_key_total [] = equal_total
compare_key_total (p ∷ ps) = then_total (compare_part_total p) (compare_key_total ps)

both_equal : (a b : Ordering) → ordering_then a b ≡ Equal → (a ≡ Equal) × (b ≡ Equal)
both_equal Less b h = absurd (cc)
both_equal Equal b h = (refl, h)
both_equal Greater b h = absurd (cc)

-- a key compares alike with two records of one key
pub prefix_alike : (ps : List KeyPart) (key r s : List Value) → compare_key ps r s ≡ Equal → compare_prefix ps key r ≡ compare_prefix ps key s
prefix_alike ps [] r s same = refl
prefix_alike [] (v ∷ vs) r s same = refl
prefix_alike (p ∷ ps) (v ∷ vs) r s same =
    let parts : (compare_part p r s ≡ Equal) × (compare_key ps r s ≡ Equal) = both_equal (compare_part p r s) (compare_key ps r s) same in
    ap (λ o. ordering_then o (compare_prefix ps vs r))
    (alike_right (directed_total p.descending) (slice_get r p.column) (slice_get s p.column) (Some v) parts.0)
    ∙ ap (ordering_then (compare_to_part p v s)) (prefix_alike ps vs r s parts.1)
