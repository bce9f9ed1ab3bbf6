-- The ids of one whole key, one after another.
-- Cited by `AskedLaws`, `mi_database`, `mi_multi` and `mi_plain`.
use Rattle.std.proofs.Common.{◌≡◌, ℕ, ◌+◌, ◌<◌, ◌≤◌, zero, suc, Bool, true, false, cond, ◌&&◌, List, [], ◌∷◌, length, refl, ap, sym, ◌∙◌, arith, eqb-true}
use Rattle.std.specs.Prelude.{◌==◌, slice_get, IsTrue}
use Rattle.std.specs.List.{filter}
use Rattle.std.specs.Ordering.{is_eq, ordering_then}
use Rattle.std.specs.Cmp.{IsTotalOrder}
use Rattle.std.specs.declared.cmp.Ordering.{Ordering}
use Rattle.std.specs.declared.cmp.Ordering.TheVariants.{Less, Equal, Greater}
use Rattle.std.specs.declared.option.Option.TheVariants.{Some}
use Rattle.mi_value.specs.declared.value.Value.{Value}
use Rattle.mi_value.specs.declared.value.Value.TheVariants.{Int, Text, Flag}
use Rattle.mi_value.specs.declared.compare.KeyPart.{KeyPart}
use Rattle.mi_value.specs.Order.{compare_missing, directed, compare_key, compare_to_part, compare_prefix}
use Rattle.mi_value.proofs.OrderLaws.{directed_total, prefix_alike}
use Rattle.mi_catalog.specs.declared.index.Column.{Column}
use Rattle.mi_catalog.specs.declared.index.Index.{Index}
use Rattle.mi_catalog.specs.Shape.{Shape, index_at}
use Rattle.mi_catalog.specs.Fits.{is_id_key, fits_key, fits_parts}
use Rattle.mi_catalog.specs.Key.{parts_or_id, record_or_id}
use Rattle.mi_model.specs.Table.{Table, has, row, times, ListsEach}
use Rattle.mi_model.specs.View.{compare_ids, compare_to_id, view, of_key}
use Rattle.mi_model.specs.LookUp as look
use Rattle.mi_model.specs.LookUp.{after_in}
use Rattle.mi_model.proofs.LookUpLaws.{stands}
use Rattle.mi_model.proofs.PlaceLaws.{after_at, times-filter-le, once-filter, once_of_each, there_of_each}
use Rattle.mi_model.proofs.QueryLaws.{filter_like}

both_equal : (a b : Ordering) → ordering_then a b ≡ Equal → (a ≡ Equal) × (b ≡ Equal)
both_equal Less b h = absurd (cc)
both_equal Equal b h = (refl, h)
both_equal Greater b h = absurd (cc)

-- two records that equal one whole key are equal at it
whole_alike : (ps : List KeyPart) (key r s : List Value) → length key ≡ length ps
    → compare_prefix ps key r ≡ Equal → compare_prefix ps key s ≡ Equal → compare_key ps r s ≡ Equal
whole_alike [] key r s long e f = refl
whole_alike (p ∷ ps) [] r s long e f = absurd (omega arith)
whole_alike (p ∷ ps) (v ∷ vs) r s long e f =
    let one : (compare_to_part p v r ≡ Equal) × (compare_prefix ps vs r ≡ Equal) = both_equal _ _ e in
    let two : (compare_to_part p v s ≡ Equal) × (compare_prefix ps vs s ≡ Equal) = both_equal _ _ f in
    let total : IsTotalOrder (λ a b. directed p.descending (compare_missing a b)) = directed_total p.descending in
    ap (λ o. ordering_then o (compare_key ps r s)) (sym (total.congr (Some v) (slice_get r p.column) (slice_get s p.column) one.0) ∙ two.0)
    ∙ whole_alike ps vs r s (omega arith) one.1 two.1

id_key_long : (key : List Value) → is_id_key key ≡ true → length key ≡ 1
id_key_long [] is = absurd (cc)
id_key_long (Int n ∷ []) is = refl
id_key_long (Int n ∷ v ∷ vs) is = absurd (cc)
id_key_long (Text bytes ∷ vs) is = absurd (cc)
id_key_long (Flag b ∷ vs) is = absurd (cc)

both_true : (a b : Bool) → (a && b) ≡ true → a ≡ true
both_true true b e = refl
both_true false b e = absurd (cc)

-- a whole key has a value for each part
pub whole_key_long : (cs : List Column) (ps : List KeyPart) (key : List Value) → IsTrue (fits_key cs ps true key) → length key ≡ length (parts_or_id ps)
whole_key_long cs [] key is = id_key_long key is
whole_key_long cs (p ∷ ps) key is = eqb-true (length key) (length (p ∷ ps)) (both_true (length key == length (p ∷ ps)) (fits_parts cs (p ∷ ps) key) is)

is_equal : (o : Ordering) → is_eq o ≡ true → o ≡ Equal
is_equal Less h = absurd (cc)
is_equal Equal h = refl
is_equal Greater h = absurd (cc)

same_test : (b c : Bool) → (b ≡ true → c ≡ true) → (c ≡ true → b ≡ true) → b ≡ c
same_test true c f g = sym (f refl)
same_test false true f g = g refl
same_test false false f g = refl

-- the ids that have the key of an id are the ids of that key
key_test : (i : Index) (t : Table) (key : List Value) (e : ℕ) → length key ≡ length (parts_or_id i.parts) → compare_to_id i t key e ≡ Equal
    → (a : ℕ) → is_eq (compare_ids i t e a) ≡ is_eq (compare_to_id i t key a)
key_test i t key e long at a =
    same_test (is_eq (compare_ids i t e a)) (is_eq (compare_to_id i t key a))
    (λ is. ap is_eq (sym (prefix_alike (parts_or_id i.parts) key (record_or_id i.parts (row t e))
    (record_or_id i.parts (row t a)) (is_equal (compare_ids i t e a) is))
    ∙ at))
    (λ is. ap is_eq (whole_alike (parts_or_id i.parts) key (record_or_id i.parts (row t e))
    (record_or_id i.parts (row t a)) long at (is_equal (compare_to_id i t key a) is)))

passes_at : (p : ℕ → Bool) (ids : List ℕ) (k e : ℕ) → slice_get (filter p ids) k ≡ Some e → p e ≡ true
passes_at p [] k e at = absurd (cc)
passes_at p (a ∷ ids) k e at = go (passes_at p ids) (p a) refl k at
  where
    go : ((k e : ℕ) → slice_get (filter p ids) k ≡ Some e → p e ≡ true) → (b : Bool) → p a ≡ b
        → (k : ℕ) → slice_get (cond b (a ∷ filter p ids) (filter p ids)) k ≡ Some e → p e ≡ true
    go rest true is zero at = let same : a ≡ e = cc in ap p (sym same) ∙ is
    go rest true is (suc k) at = rest k e at
    go rest false is k at = rest k e at

-- in a table an id that has a key is there
pub key_is_there : (s : Shape) (t : Table) (x : ℕ) (key : List Value) → ListsEach t (view s t x)
    → (k e : ℕ) → slice_get (of_key s t x key) k ≡ Some e → has t e ≡ true
key_is_there s t x key each k e at =
    let listed : 0 < times e (of_key s t x key) = stands e k (of_key s t x key) at in
    let fewer : times e (of_key s t x key) ≤ times e (view s t x) = times-filter-le _ e (view s t x) in
    there_of_each t (view s t x) each e (omega arith)

-- after the id at a place among those of a whole key comes the id at the next
pub next_of_key : (s : Shape) (t : Table) (x : ℕ) (key : List Value) → ListsEach t (view s t x) → IsTrue (fits_key s.columns (index_at s x).parts true key)
    → (k e : ℕ) → slice_get (of_key s t x key) k ≡ Some e → look.next_with_key s t x e ≡ slice_get (of_key s t x key) (k + 1)
next_of_key s t x key each fits k e at =
    ap (λ ids. after_in ids e)
    (filter_like (λ a. is_eq (compare_ids (index_at s x) t e a)) (λ a. is_eq (compare_to_id (index_at s x) t key a))
    (key_test (index_at s x) t key e (whole_key_long s.columns (index_at s x).parts key fits) (is_equal _ (passes_at _ (view s t x) k e at))) (view s t x))
    ∙ after_at (of_key s t x key) (once-filter _ (view s t x) (once_of_each t (view s t x) each)) k e at
