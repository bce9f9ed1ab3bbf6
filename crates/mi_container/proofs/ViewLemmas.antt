-- What a sorted or hashed index of data shows: the live ids, in the one order of keys and then stamps.
-- Cited by `laws::hashed_is_shown`, `laws::ids_are_shown`, `laws::sorted_is_shown`, `InverseLemmas`, `RaiseLemmas`, 1 more and `mi_multi`.
use Rattle.std.proofs.Common.{◌≡◌, ◌≢◌, ℕ, ◌+◌, ◌<◌, zero, suc, true, false, List, [], ◌∷◌, length, get_or, cond, refl, ap, sym, ◌∙◌, subst, arith}
use Rattle.std.specs.Prelude.{pos, nat_lt}
use Rattle.std.specs.List.{AllByRecursion}
use Rattle.std.specs.Ordering.{is_lt, int_cmp, nat_cmp, on, ordering_then, ordering_reverse}
use Rattle.std.specs.Cmp.{IsTotalOrder, on_total, then_total}
use Rattle.std.proofs.lemmas.Bool.{false≢true, lt-ltb}
use Rattle.std.proofs.lemmas.Cmp.{nat_cmp_total, ranked}
use Rattle.std.proofs.lemmas.Map.Lookups.{exact_signed}
use Rattle.std.specs.declared.cmp.Ordering.{Ordering}
use Rattle.std.specs.declared.cmp.Ordering.TheVariants.{Less, Equal, Greater}
use Rattle.mi_value.specs.declared.compare.KeyPart.{KeyPart}
use Rattle.mi_catalog.specs.declared.index.Index.{Index}
use Rattle.mi_catalog.specs.declared.index.IndexKind.{IndexKind}
use Rattle.mi_catalog.specs.declared.index.IndexKind.TheVariants.{Ordered, Ranked, Hashed, Sequenced}
use Rattle.mi_catalog.specs.Kinds.{is_sorted, is_hashed}
use Rattle.mi_catalog.specs.Shape.{Shape, index_at}
use Rattle.mi_catalog.specs.Key.{compare_rows}
use Rattle.mi_model.specs.Table.{Table, row, list_of, ListsEach}
use Rattle.mi_model.specs.View.{compare_ids, sorted, shown, view}
use Rattle.mi_model.proofs.SortLaws.{Ascends, ascends_sorted}
use Rattle.mi_model.proofs.StampLaws.{Rises, rises_once, sorted-rises}
use Rattle.mi_model.proofs.ViewLaws.{Lacks, compare_ids_total}
use Rattle.mi_model.proofs.TableLaws.{all_get}
use Rattle.mi_model.proofs.PlaceLaws.{each_in_view}
use Rattle.mi_container.specs.Data.{Node, Order, Data, has_stamps, stamp_of, ids_by_stamp, ids_of}
use Rattle.mi_container.specs.Data.{listed, lists_from, as_table, KindFits, KindsFit, Climbs, IsData}
use Rattle.mi_container.specs.Data.Order.{ById, ByKey, ByHash, Listed}
use Rattle.mi_container.specs.Fits.{IsThere}
use Rattle.mi_container.specs.Laws.{RiseBy, stands_before, SortedIsShown, HashedIsShown, IdsAreShown}
use Rattle.mi_container.proofs.SequenceLemmas.{Once}
use Rattle.mi_container.proofs.InvariantLemmas.{rows_climb, each_there, each_once, stamp_there}

ids_below : (m n : ℕ) → m < n → int_cmp (pos m) (pos n) ≡ Less
ids_below m n l = ap (λ b. cond b Less (cond (nat_lt n m) Greater Equal)) (lt-ltb m n l)

-- Lists that rise

-- where no two of them are equal, ids that ascend rise
module _ (order : ℕ → ℕ → Ordering) (o : IsTotalOrder order) (P : ℕ → Type 0) (differ : (a b : ℕ) → P a → P b → a ≢ b → order a b ≢ Equal) where
  less_of : (a b : ℕ) → is_lt (order b a) ≡ false → order a b ≢ Equal → order a b ≡ Less
  less_of a b upto ne =
      elim (order a b) as (λ r. order a b ≡ r → order a b ≡ Less) [
        | Less ↦ λ is. is
        | Equal ↦ λ is. absurd (ne is)
        | Greater ↦ λ is. absurd (false≢true (sym upto ∙ ap is_lt (o.antisymm b a ∙ ap ordering_reverse is)))
      ] refl

  all_less : (a : ℕ) (ids : List ℕ) → P a → AllByRecursion P ids → Lacks a ids
      → AllByRecursion (λ b. is_lt (order b a) ≡ false) ids → AllByRecursion (λ b. order a b ≡ Less) ids
  all_less a [] p all lacks up = tt
  all_less a (b ∷ ids) p all lacks up = (less_of a b up.0 (differ a b p all.0 (λ same. lacks.0 (sym same))), all_less a ids p all.1 lacks.1 up.1)

  rises_strict : (ids : List ℕ) → AllByRecursion P ids → Once ids → Ascends order ids → Rises order ids
  rises_strict [] all once up = tt
  rises_strict (a ∷ ids) all once up = (all_less a ids all.0 all.1 once.0 up.0, rises_strict ids all.1 once.1 up.1)

-- the same by the word of the laws
rise_is : (order : ℕ → ℕ → Ordering) (ids : List ℕ) → RiseBy order ids → Rises order ids
rise_is order [] up = tt
rise_is order (a ∷ ids) up = (up.0, rise_is order ids up.1)

-- Kinds

no_index_sorted : (is : List Index) (os : List Order) (x : ℕ) (i : Index) → KindsFit is os → x < length os → KindFits (get_or is x i) (get_or os x ById)
no_index_sorted [] [] x i kinds l = absurd (omega arith)
no_index_sorted [] (o ∷ os) x i kinds l = absurd kinds
no_index_sorted (j ∷ is) [] x i kinds l = absurd kinds
no_index_sorted (j ∷ is) (o ∷ os) zero i kinds l = kinds.0
no_index_sorted (j ∷ is) (o ∷ os) (suc x) i kinds l = no_index_sorted is os x i kinds.1 (omega arith)

length_fits : (is : List Index) (os : List Order) → KindsFit is os → length is ≡ length os
length_fits [] [] kinds = refl
length_fits [] (o ∷ os) kinds = absurd kinds
length_fits (i ∷ is) [] kinds = absurd kinds
length_fits (i ∷ is) (o ∷ os) kinds = ap suc (length_fits is os kinds.1)

shown_sorted : (kind : IndexKind) (order : ℕ → ℕ → Ordering) (ids : List ℕ) → is_sorted kind ≡ true → shown kind order ids ≡ sorted order ids
shown_sorted Ordered order ids h = refl
shown_sorted Ranked order ids h = refl
shown_sorted Hashed order ids h = absurd (false≢true h)
shown_sorted Sequenced order ids h = absurd (false≢true h)

shown_hashed : (kind : IndexKind) (order : ℕ → ℕ → Ordering) (ids : List ℕ) → is_hashed kind ≡ true → shown kind order ids ≡ ids
shown_hashed Ordered order ids h = absurd (false≢true h)
shown_hashed Ranked order ids h = absurd (false≢true h)
shown_hashed Hashed order ids h = refl
shown_hashed Sequenced order ids h = absurd (false≢true h)

list_from : (y x : ℕ) (rows : List (ℕ × Node)) (os : List Order) → x < length os → get_or (lists_from y rows os) x [] ≡ listed (y + x) rows (get_or os x ById)
list_from y x rows [] l = absurd (omega arith)
list_from y zero rows (o ∷ os) l = let same : y ≡ y + 0 = omega arith in ap (λ n. listed n rows o) same
list_from y (suc x) rows (o ∷ os) l =
    let next : suc y + x ≡ y + suc x = omega arith in list_from (suc y) x rows os (omega arith) ∙ ap (λ n. listed n rows (get_or os x ById)) next

length_lists : (y : ℕ) (rows : List (ℕ × Node)) (os : List Order) → length (lists_from y rows os) ≡ length os
length_lists y rows [] = refl
length_lists y rows (o ∷ os) = ap suc (length_lists (suc y) rows os)

module _ (s : Shape) (d : Data) (is : IsData s d) (x : ℕ) (l : x < length d.orders) where
  abbrev t : Table
  t = as_table d

  list_at : list_of t x ≡ listed x d.rows (get_or d.orders x ById)
  list_at = let same : 0 + x ≡ x = omega arith in list_from 0 x d.rows d.orders l ∙ ap (λ n. listed n d.rows (get_or d.orders x ById)) same

  each_at : ListsEach t (list_of t x)
  each_at = all_get (ListsEach t) t.lists x is.table.complete (let long : length t.lists ≡ length d.orders = length_lists 0 d.rows d.orders in omega arith)

  -- two live ids have different stamps
  stamps_differ : has_stamps (get_or d.orders x ById) ≡ true → (a b : ℕ) → IsThere d.rows a
      → IsThere d.rows b → a ≢ b → on (stamp_of d.rows x) nat_cmp a b ≢ Equal
  stamps_differ has_ a b p q ne same =
      let stamps : stamp_of d.rows x a ≡ stamp_of d.rows x b = ranked (stamp_of d.rows x a) (stamp_of d.rows x b) Equal (sym same) in
      ne (is.apart a b p.0 q.0 x p.1 q.1 has_ (sym (stamp_there d.rows x a p) ∙ stamps ∙ stamp_there d.rows x b q))

  stamps_rise : has_stamps (get_or d.orders x ById) ≡ true → ListsEach t (ids_by_stamp x d.rows)
      → Rises (on (stamp_of d.rows x) nat_cmp) (ids_by_stamp x d.rows)
  stamps_rise has_ each =
      rises_strict (on (stamp_of d.rows x) nat_cmp) (on_total (stamp_of d.rows x) nat_cmp_total) (IsThere d.rows) (stamps_differ has_) (ids_by_stamp x d.rows)
      (each_there d (ids_by_stamp x d.rows) each) (each_once t (ids_by_stamp x d.rows) each)
      (ascends_sorted (on_total (stamp_of d.rows x) nat_cmp_total) (ids_of d.rows))

one_stamped : (o : Order) (x : ℕ) (rows : List (ℕ × Node)) → has_stamps o ≡ true → listed x rows o ≡ ids_by_stamp x rows
one_stamped ById x rows has_ = absurd (false≢true has_)
one_stamped (ByKey ps) x rows has_ = refl
one_stamped (ByHash ps) x rows has_ = refl
one_stamped (Listed ids) x rows has_ = absurd (false≢true has_)

-- the stamps of an index that has them rise
pub stamps_rise_in : (s : Shape) (d : Data) → IsData s d → (x : ℕ) → x < length d.orders
    → has_stamps (get_or d.orders x ById) ≡ true → Rises (on (stamp_of d.rows x) nat_cmp) (ids_by_stamp x d.rows)
stamps_rise_in s d is x l has_ =
    stamps_rise s d is x l has_ (subst (ListsEach (as_table d)) (list_at s d is x l ∙ one_stamped (get_or d.orders x ById) x d.rows has_) (each_at s d is x l))

-- by keys and stamps
keyed_rises : (s : Shape) (d : Data) (is : IsData s d) (x : ℕ) (ps : List KeyPart) → x < length d.orders
    → get_or d.orders x ById ≡ ByKey ps → Rises (stands_before s d x) (view s (as_table d) x)
keyed_rises s d is x ps l here =
    let fits : KindFits (index_at s x) (ByKey ps) = subst (KindFits (index_at s x)) here (no_index_sorted s.indexes d.orders x _ is.kinds l) in
    let list : list_of (as_table d) x ≡ ids_by_stamp x d.rows = list_at s d is x l ∙ ap (listed x d.rows) here in
    let each : ListsEach (as_table d) (ids_by_stamp x d.rows) = subst (ListsEach (as_table d)) list (each_at s d is x l) in
    let up = stamps_rise s d is x l (ap has_stamps here) each in
    let whole : view s (as_table d) x ≡ sorted (compare_ids (index_at s x) (as_table d)) (ids_by_stamp x d.rows) =
    shown_sorted (index_at s x).kind (compare_ids (index_at s x) (as_table d)) (list_of (as_table d) x) fits.0
    ∙ ap (sorted (compare_ids (index_at s x) (as_table d))) list in
    subst (Rises (stands_before s d x)) (sym whole)
    (sorted-rises (compare_ids_total (index_at s x) (as_table d)) (stamp_of d.rows x) (ids_by_stamp x d.rows) up)

pub sorted_is_shown : SortedIsShown
sorted_is_shown s d x ps ids is l here each up =
    let long : length s.indexes ≡ length d.orders = length_fits s.indexes d.orders is.kinds in
    let all : ListsEach (as_table d) (view s (as_table d) x) = each_in_view s (as_table d) x is.table (omega arith) in
    rises_once (stands_before s d x)
    (then_total (compare_ids_total (index_at s x) (as_table d)) (on_total (stamp_of d.rows x) nat_cmp_total)) ids (view s (as_table d) x)
    (rise_is (stands_before s d x) ids up) (keyed_rises s d is x ps l here) (λ id. each id ∙ sym (all id))

pub hashed_is_shown : HashedIsShown
hashed_is_shown s d x ps ids is l here each up =
    let fits : KindFits (index_at s x) (ByHash ps) = subst (KindFits (index_at s x)) here (no_index_sorted s.indexes d.orders x _ is.kinds l) in
    let list : list_of (as_table d) x ≡ ids_by_stamp x d.rows = list_at s d is x l ∙ ap (listed x d.rows) here in
    let all : ListsEach (as_table d) (ids_by_stamp x d.rows) = subst (ListsEach (as_table d)) list (each_at s d is x l) in
    rises_once (on (stamp_of d.rows x) nat_cmp) (on_total (stamp_of d.rows x) nat_cmp_total) ids (ids_by_stamp x d.rows)
    (rise_is (on (stamp_of d.rows x) nat_cmp) ids up) (stamps_rise s d is x l (ap has_stamps here) all) (λ id. each id ∙ sym (all id))
    ∙ sym list ∙ sym (shown_hashed (index_at s x).kind (compare_ids (index_at s x) (as_table d)) (list_of (as_table d) x) fits.0)

-- by ids

ids_by : (i : Index) (t : Table) (a b : ℕ) → i.parts ≡ [] → compare_ids i t a b ≡ ordering_then (int_cmp (pos a) (pos b)) Equal
ids_by i t a b none = ap (λ ps. compare_rows ps (row t a) (row t b)) none

climbs_rise : (i : Index) (t : Table) (next : ℕ) (rows : List (ℕ × Node)) → i.parts ≡ [] → Climbs next rows → Rises (compare_ids i t) (ids_of rows)
climbs_rise i t next [] none up = tt
climbs_rise i t next (r ∷ rows) none up = (above rows up.1, climbs_rise i t next rows none up.2)
  where
    above : (others : List (ℕ × Node)) → AllByRecursion (λ (q : ℕ × Node). r.0 < q.0) others
        → AllByRecursion (λ b. compare_ids i t r.0 b ≡ Less) (ids_of others)
    above [] all = tt
    above (q ∷ others) all = (ids_by i t r.0 q.0 none ∙ ap (λ o. ordering_then o Equal) (ids_below r.0 q.0 all.0), above others all.1)

then_equal : (o : Ordering) → ordering_then o Equal ≡ Equal → o ≡ Equal
then_equal Less h = absurd (cc)
then_equal Equal h = refl
then_equal Greater h = absurd (cc)

pos_same : (a b : ℕ) → pos a ≡ pos b → a ≡ b
pos_same a b h = cc

all_unit : (ids : List ℕ) → AllByRecursion (λ _. Unit {0}) ids
all_unit [] = tt
all_unit (a ∷ ids) = (tt, all_unit ids)

pub ids_are_shown : IdsAreShown
ids_are_shown s d x is l here =
    let i : Index = index_at s x in
    let t : Table = as_table d in
    let fits : KindFits i ById = subst (KindFits i) here (no_index_sorted s.indexes d.orders x _ is.kinds l) in
    let list : list_of t x ≡ ids_of d.rows = list_at s d is x l ∙ ap (listed x d.rows) here in
    let each : ListsEach t (ids_of d.rows) = subst (ListsEach t) list (each_at s d is x l) in
    let long : length s.indexes ≡ length d.orders = length_fits s.indexes d.orders is.kinds in
    let all : ListsEach t (view s t x) = each_in_view s t x is.table (omega arith) in
    let whole : view s t x ≡ sorted (compare_ids i t) (list_of t x) = shown_sorted i.kind (compare_ids i t) (list_of t x) fits.0 in
    let ascends : Ascends (compare_ids i t) (view s t x) = subst (Ascends (compare_ids i t))
    (sym whole) (ascends_sorted (compare_ids_total i t) (list_of t x)) in
    let differ : (a b : ℕ) → Unit {0} → Unit {0} → a ≢ b → compare_ids i t a b ≢ Equal =
    λ a b _ _ ne same. ne (pos_same a b (exact_signed (pos a) (pos b) (then_equal (int_cmp (pos a) (pos b)) (sym (ids_by i t a b fits.1) ∙ same)))) in
    let up : Rises (compare_ids i t) (view s t x) =
    rises_strict (compare_ids i t) (compare_ids_total i t) (λ _. Unit {0}) differ (view s t x) (all_unit (view s t x)) (each_once t (view s t x) all) ascends in
    rises_once (compare_ids i t) (compare_ids_total i t) (ids_of d.rows) (view s t x)
    (climbs_rise i t d.next d.rows fits.1 (rows_climb s d is)) up (λ id. each id ∙ sym (all id))
