-- What stands before a boundary, and what an index then shows there.
-- Cited by `PlainTable::count`, `PlainTable::first_of`, `PlainTable::last_before`, `PlainTable::next_of`, `PlainTable::nth` and 3 more.
use Rattle.std.proofs.Common.{◌≡◌, ℕ, ◌<◌, ◌≤◌, Bool, true, false, cond, not, inl, inr, List, []}
use Rattle.std.proofs.Common.{◌∷◌, ◌++◌, length, slice_get, refl, ap, sym, ◌∙◌, subst, arith}
use Rattle.std.specs.List.{filter, fold}
use Rattle.std.specs.Ordering.{is_lt, is_gt, is_ge, ordering_then}
use Rattle.std.specs.Cmp.{IsTotalOrder, then_total, on_total, nat_cmp_total}
use Rattle.std.proofs.lemmas.Bool.{cases_lt}
use Rattle.std.proofs.lemmas.List.{get_or_past, append-nil, append_assoc}
use Rattle.std.specs.declared.cmp.Ordering.{Ordering}
use Rattle.std.specs.declared.cmp.Ordering.TheVariants.{Less, Equal, Greater}
use Rattle.mi_value.specs.declared.value.Value.{Value}
use Rattle.mi_catalog.specs.declared.index.Index.{Index}
use Rattle.mi_catalog.specs.declared.index.IndexKind.{IndexKind}
use Rattle.mi_catalog.specs.declared.index.IndexKind.TheVariants.{Ordered, Ranked, Hashed, Sequenced}
use Rattle.mi_catalog.specs.Shape.{Shape, index_at}
use Rattle.mi_model.specs.Table.{Table, IsTable, ListsEach, has, list_of, times}
use Rattle.mi_model.specs.View.{place, sorted, shown, view, compare_ids, compare_to_id}
use Rattle.mi_catalog.specs.Kinds.{is_sorted, shows_one_list}
use Rattle.mi_model.specs.LookUp as look
use Rattle.mi_model.specs.LookUp.{rank_in, before_place}
use Rattle.mi_model.proofs.SortLaws.{both_ways, is_less, filter-sorted}
use Rattle.mi_model.proofs.StampLaws.{Rises, sorted-rises}
use Rattle.mi_model.proofs.TableLaws.{all_get}
use Rattle.mi_model.proofs.ViewLaws.{compare_ids_total}
use Rattle.mi_model.proofs.PrefixLaws.{key_falls}
use Rattle.mi_model.proofs.LookUpLaws.{HoldsBefore, first_past, last_before, rank_counts, rank_counts_itself, places_rise, count-sorted, times-sorted}
use Rattle.mi_plain.specs.declared.pass.Boundary.TheVariants.{Start, End, Lower, Upper, Before, Behind}
use Rattle.mi_plain.specs.Boundary.{order_by, order_in, by_place, is_before, last_id}

order_by_total : (kind : IndexKind) (order : ℕ → ℕ → Ordering) → IsTotalOrder order → IsTotalOrder (order_by kind order)
order_by_total Ordered order o = o
order_by_total Ranked order o = o
order_by_total Hashed order o = record { antisymm = λ a b. refl; trans = λ a b c l m. l; congr = λ a b c is. refl }
order_by_total Sequenced order o = record { antisymm = λ a b. refl; trans = λ a b c l m. l; congr = λ a b c is. refl }

-- an index orders its ids in full, equal ones apart
pub order_in_total : (i : Index) (t : Table) → IsTotalOrder (order_in i t)
order_in_total i t = order_by_total i.kind (compare_ids i t) (compare_ids_total i t)

pub by_place_total : (i : Index) (t : Table) (ids : List ℕ) → IsTotalOrder (by_place i t ids)
by_place_total i t ids = then_total (order_in_total i t) (on_total (rank_in ids) nat_cmp_total)

-- where no id is less than another, sorting changes nothing
place_last : (order : ℕ → ℕ → Ordering) → ((a b : ℕ) → is_lt (order a b) ≡ false) → (e : ℕ) (ids : List ℕ) → place order e ids ≡ ids ++ e ∷ []
place_last order none e [] = refl
place_last order none e (a ∷ ids) = ap (λ b. cond b (e ∷ a ∷ ids) (a ∷ place order e ids)) (none e a) ∙ ap (λ xs. a ∷ xs) (place_last order none e ids)

fold_last : (order : ℕ → ℕ → Ordering) → ((a b : ℕ) → is_lt (order a b) ≡ false) → (done ids : List ℕ) → fold (λ d e. place order e d) done ids ≡ done ++ ids
fold_last order none done [] = sym (append-nil done)
fold_last order none done (e ∷ ids) =
    fold_last order none (place order e done) ids ∙ ap (λ d. d ++ ids) (place_last order none e done) ∙ append_assoc done (e ∷ []) ids

by_kind_shown : (kind : IndexKind) (order : ℕ → ℕ → Ordering) (ids : List ℕ) → shown kind order ids ≡ sorted (order_by kind order) ids
by_kind_shown Ordered order ids = refl
by_kind_shown Ranked order ids = refl
by_kind_shown Hashed order ids = sym (fold_last (order_by Hashed order) (λ a b. refl) [] ids)
by_kind_shown Sequenced order ids = sym (fold_last (order_by Sequenced order) (λ a b. refl) [] ids)

-- what an index shows is its list, sorted
pub view_is : (s : Shape) (t : Table) (x : ℕ) → view s t x ≡ sorted (order_in (index_at s x) t) (list_of t x)
view_is s t x = by_kind_shown (index_at s x).kind (compare_ids (index_at s x) t) (list_of t x)

at_most_one : (b : Bool) → cond {A = ℕ} b 1 0 ≤ 1
at_most_one true = omega arith
at_most_one false = omega arith

pub once : (t : Table) (ids : List ℕ) → ListsEach t ids → (id : ℕ) → times id ids ≤ 1
once t ids each id = subst (λ n. n ≤ 1) (sym (each id)) (at_most_one (has t id))

pub stands_once : (t : Table) (ids : List ℕ) (e : ℕ) → ListsEach t ids → has t e ≡ true → 0 < times e ids
stands_once t ids e each there = let one : times e ids ≡ 1 = each e ∙ ap (λ b. cond {A = ℕ} b 1 0) there in omega (arith, one)

module _ (i : Index) (t : Table) (ids : List ℕ) (each : ListsEach t ids) where
  abbrev pub all : List ℕ
  all = sorted (order_in i t) ids

  rises : Rises (by_place i t ids) all
  rises = sorted-rises (order_in_total i t) (rank_in ids) ids (places_rise ids (once t ids each))

  -- the first past a boundary, the last before it, and how many are before it
  pub shown_past : (p : ℕ → Bool) → HoldsBefore (by_place_total i t ids) p
      → slice_get (sorted (order_in i t) (filter (λ a. not (p a)) ids)) 0 ≡ slice_get all (length (filter p all))
  shown_past p holds = ap (λ xs. slice_get xs 0) (sym (filter-sorted (order_in_total i t) (λ a. not (p a)) ids))
      ∙ first_past (by_place_total i t ids) p holds all rises

  shown_before : (p : ℕ → Bool) → HoldsBefore (by_place_total i t ids) p
      → last_id (sorted (order_in i t) (filter p ids)) ≡ before_place all (length (filter p all))
  shown_before p holds = ap last_id (sym (filter-sorted (order_in_total i t) p ids)) ∙ last_before (by_place_total i t ids) p holds all rises

  pub shown_count : (p : ℕ → Bool) → length (filter p ids) ≡ length (filter p all)
  shown_count p = sym (count-sorted p (order_in i t) ids)

  stands_in_all : (e : ℕ) → has t e ≡ true → 0 < times e all
  stands_in_all e there = subst (λ n. 0 < n) (sym (times-sorted e (order_in i t) ids)) (stands_once t ids e each there)

  holds_before : (e : ℕ) → HoldsBefore (by_place_total i t ids) (λ a. is_lt (by_place i t ids a e))
  holds_before e a b l yes_b = ap is_lt ((by_place_total i t ids).trans a b e l (is_less _ yes_b))

  holds_behind : (e : ℕ) → HoldsBefore (by_place_total i t ids) (λ a. not (is_lt (by_place i t ids e a)))
  holds_behind e a b l isnt =
      both_ways (is_lt (by_place i t ids e a))
      (λ less. absurd (let h : is_lt (by_place i t ids e b) ≡ true = ap is_lt ((by_place_total i t ids).trans e a b (is_less _ less) l) in
      let k : false ≡ true = sym (ap not h) ∙ isnt in
      cc))
      (λ no. ap not no)

  -- the neighbours of an id, and its rank
  pub after_is : (key : List Value) (e : ℕ) → has t e ≡ true
      → slice_get (sorted (order_in i t) (filter (λ a. not (is_before i t ids key (Behind e (rank_in ids e)) a)) ids)) 0 ≡ look.after_in all e
  after_is key e there =
      shown_past (is_before i t ids key (Behind e (rank_in ids e))) (holds_behind e)
      ∙ ap (slice_get all) (rank_counts_itself (by_place_total i t ids) e all rises (stands_in_all e there))

  pub before_is : (key : List Value) (e : ℕ) → has t e ≡ true
      → last_id (sorted (order_in i t) (filter (λ a. is_before i t ids key (Before e (rank_in ids e)) a) ids)) ≡ look.before_in all e
  before_is key e there =
      shown_before (is_before i t ids key (Before e (rank_in ids e))) (holds_before e)
      ∙ ap (before_place all) (rank_counts (by_place_total i t ids) e all rises (stands_in_all e there))

  pub rank_is : (key : List Value) (e : ℕ) → has t e ≡ true → length (filter (λ a. is_before i t ids key (Before e (rank_in ids e)) a) ids) ≡ rank_in all e
  rank_is key e there = shown_count (is_before i t ids key (Before e (rank_in ids e)))
      ∙ rank_counts (by_place_total i t ids) e all rises (stands_in_all e there)

  none_pass : (xs : List ℕ) → filter (λ a. false) xs ≡ []
  none_pass [] = refl
  none_pass (a ∷ xs) = none_pass xs

  all_pass : (xs : List ℕ) → filter (λ a. true) xs ≡ xs
  all_pass [] = refl
  all_pass (a ∷ xs) = ap (λ ys. a ∷ ys) (all_pass xs)

  -- the ends
  pub first_is : (key : List Value) → slice_get (sorted (order_in i t) (filter (λ a. not (is_before i t ids key Start a)) ids)) 0 ≡ slice_get all 0
  first_is key = ap (λ xs. slice_get (sorted (order_in i t) xs) 0) (all_pass ids)

  pub last_is : (key : List Value) → last_id (sorted (order_in i t) (filter (λ a. is_before i t ids key End a) ids)) ≡ last_id all
  last_is key = ap (λ xs. last_id (sorted (order_in i t) xs)) (all_pass ids)

upto : (r q : Ordering) → ordering_then r q ≡ Less → is_gt r ≡ false
upto Less q h = refl
upto Equal q h = refl
upto Greater q h = absurd (cc)

by_key : (kind : IndexKind) (order : ℕ → ℕ → Ordering) (a b : ℕ) → is_sorted kind ≡ true → is_gt (order_by kind order a b) ≡ false → is_gt (order a b) ≡ false
by_key Ordered order a b is h = h
by_key Ranked order a b is h = h
by_key Hashed order a b is h = absurd (cc)
by_key Sequenced order a b is h = absurd (cc)

greater : (r : Ordering) → is_gt r ≡ true → r ≡ Greater
greater Less h = absurd (cc)
greater Equal h = absurd (cc)
greater Greater h = refl

less_or_ge : (r : Ordering) → is_ge r ≡ false → r ≡ Less
less_or_ge Less h = refl
less_or_ge Equal h = absurd (cc)
less_or_ge Greater h = absurd (cc)

module _ (i : Index) (t : Table) (ids : List ℕ) (sorts : is_sorted i.kind ≡ true) (key : List Value) where
  follows : (a b : ℕ) → by_place i t ids a b ≡ Less → is_gt (compare_ids i t a b) ≡ false
  follows a b l = by_key i.kind (compare_ids i t) a b sorts (upto (order_in i t a b) _ l)

  pub holds_lower : HoldsBefore (by_place_total i t ids) (is_before i t ids key Lower)
  holds_lower a b l above = ap is_gt ((key_falls i t key a b (follows a b l)).0 (greater _ above))

  pub holds_upper : HoldsBefore (by_place_total i t ids) (is_before i t ids key Upper)
  holds_upper a b l above =
      both_ways (is_ge (compare_to_id i t key a)) (λ is. is)
      (λ below. absurd (let h : compare_to_id i t key b ≡ Less = (key_falls i t key a b (follows a b l)).1 (less_or_ge _ below) in
      let k : false ≡ true = sym (ap is_ge h) ∙ above in
      cc))

-- an index that shows one list is one of the schema
within_shape : (P : IndexKind → Bool) (s : Shape) (x : ℕ) → P Hashed ≡ false → P (index_at s x).kind ≡ true → x < length s.indexes
within_shape P s x none is =
    elim (cases_lt x (length s.indexes)) [
      | inl within ↦ within
      | inr past ↦ absurd (let h : P (index_at s x).kind ≡ P Hashed = ap (λ (i : Index). P i.kind) (get_or_past s.indexes x _ past) in
          let k : true ≡ false = sym is ∙ h ∙ none in
          cc)
    ]

-- each index of a table lists each row once
pub listed : (s : Shape) (t : Table) (x : ℕ) → IsTable s t → x < length s.indexes → ListsEach t (list_of t x)
listed s t x is within = let n : length t.lists ≡ length s.indexes = is.one_each in all_get (ListsEach t) t.lists x is.complete (omega (arith, n))

pub listed_shown : (s : Shape) (t : Table) (x : ℕ) → IsTable s t → shows_one_list (index_at s x).kind ≡ true → ListsEach t (list_of t x)
listed_shown s t x is shows = listed s t x is (within_shape shows_one_list s x refl shows)

pub listed_sorted : (s : Shape) (t : Table) (x : ℕ) → IsTable s t → is_sorted (index_at s x).kind ≡ true → ListsEach t (list_of t x)
listed_sorted s t x is sorts = listed s t x is (within_shape is_sorted s x refl sorts)
