-- A table of the old schema becomes one of the new.
-- Cited by `laws::reshaped_is_table`, `CatalogLemmas` and `ResultLemmas`.
use Rattle.std.proofs.Common.{◌≡◌, ℕ, zero, suc, ◌<◌, Bool, true, false, cond, inl, inr, List, [], ◌∷◌, map, length, slice_index_or, refl, sym, ap, ◌∙◌, subst, arith}
use Rattle.std.specs.Prelude.{◌==◌, option_and_then}
use Rattle.std.specs.Option.{option_map_or, is_some}
use Rattle.std.specs.List.{AllByRecursion}
use Rattle.std.specs.Map.{lookup}
use Rattle.std.specs.declared.option.Option.{Option}
use Rattle.std.specs.declared.option.Option.TheVariants.{None, Some}
use Rattle.std.proofs.lemmas.Bool.Decides.{eqb_tells}
use Rattle.std.proofs.lemmas.List.{length-map}
use Rattle.std.proofs.lemmas.List.Quantifiers.{position-Some}
use Rattle.mi_value.specs.declared.value.Value.{Value}
use Rattle.mi_catalog.specs.declared.index.Index.{Index}
use Rattle.mi_catalog.specs.Shape.{Shape, find_index, index_at}
use Rattle.mi_catalog.specs.Key.{Row}
use Rattle.mi_model.specs.Table.{Table, list_of, Rise, times, ListsEach, IsTable}
use Rattle.mi_reshape.specs.Reshaped.{reshaped_row, same_index, kept_index, reshaped_list, reshaped_table, ReshapedIsTable}

abbrev put : Shape → Shape → Row → Row
put from to r = (r.0, reshaped_row from to r.1)

-- what holds of each element holds of that of a number
pub all_at : {X : Type 0} (P : X → Type 0) (xs : List X) (k : ℕ) (d : X) → AllByRecursion P xs → k < length xs → P (slice_index_or xs k d)
all_at P [] k d all within = absurd (omega arith)
all_at P (x ∷ xs) zero d all within = all.0
all_at P (x ∷ xs) (suc k) d all within = all_at P xs k d all.1 (omega arith)

-- The ids stay

above_stay : (from to : Shape) (a : ℕ) (rows : List Row) → AllByRecursion (λ (q : Row). a < q.0) rows
    → AllByRecursion (λ (q : Row). a < q.0) (map (put from to) rows)
above_stay from to a [] all = tt
above_stay from to a (r ∷ rows) all = (all.0, above_stay from to a rows all.1)

rise_stays : (from to : Shape) (next : ℕ) (rows : List Row) → Rise next rows → Rise next (map (put from to) rows)
rise_stays from to next [] up = tt
rise_stays from to next (r ∷ rows) up = (up.0, above_stay from to r.0 rows up.1, rise_stays from to next rows up.2)

some_stays : (b : Bool) (v w : List Value) (o u : Option (List Value)) → is_some o ≡ is_some u → is_some (cond b (Some v) o) ≡ is_some (cond b (Some w) u)
some_stays true v w o u e = refl
some_stays false v w o u e = e

has_stays : (from to : Shape) (id : ℕ) (rows : List Row) → is_some (lookup (λ a. a == id) (map (put from to) rows)) ≡ is_some (lookup (λ a. a == id) rows)
has_stays from to id [] = refl
has_stays from to id (r ∷ rows) = some_stays (r.0 == id) _ _ _ _ (has_stays from to id rows)

-- The rising ids have each id once

none_above : (e : ℕ) (rows : List Row) → AllByRecursion (λ (q : Row). e < q.0) rows → times e (map (λ r. r.0) rows) ≡ 0
none_above e [] all = refl
none_above e (q ∷ rows) all =
    elim (eqb_tells q.0 e) [
      | inl is ↦ absurd (let l : e < q.0 = all.0 in let same : q.0 ≡ e = is.1 in omega arith)
      | inr isnt ↦ let z : cond {A = ℕ} (q.0 == e) 1 0 ≡ 0 = ap (λ b. cond {A = ℕ} b 1 0) isnt.0 in omega (arith, z, none_above e rows all.1)
    ]

ids_once : (next e : ℕ) (rows : List Row) → Rise next rows → times e (map (λ r. r.0) rows) ≡ cond {A = ℕ} (is_some (lookup (λ k. k == e) rows)) 1 0
ids_once next e [] up = refl
ids_once next e (r ∷ rows) up =
    elim (eqb_tells r.0 e) [
      | inl same ↦
          let rest : times e (map (λ (q : Row). q.0) rows) ≡ 0 = none_above e rows (subst (λ k. AllByRecursion (λ (q : Row). k < q.0) rows) same.1 up.1) in
          let one : cond {A = ℕ} (r.0 == e) 1 0 ≡ 1 = ap (λ b. cond {A = ℕ} b 1 0) same.0 in
          let all : times e (map (λ (q : Row). q.0) (r ∷ rows)) ≡ 1 = omega (arith, rest, one) in
          all ∙ sym (ap (λ b. cond {A = ℕ} (is_some (cond b (Some r.1) (lookup (λ k. k == e) rows))) 1 0) same.0)
      | inr other ↦
          let zero : cond {A = ℕ} (r.0 == e) 1 0 ≡ 0 = ap (λ b. cond {A = ℕ} b 1 0) other.0 in
          let rest = ids_once next e rows up.2 in
          let all : times e (map (λ (q : Row). q.0) (r ∷ rows)) ≡ cond {A = ℕ} (is_some (lookup (λ k. k == e) rows)) 1 0 = omega (arith, zero, rest) in
          all ∙ sym (ap (λ b. cond {A = ℕ} (is_some (cond b (Some r.1) (lookup (λ k. k == e) rows))) 1 0) other.0)
    ]

-- Each list

kept_of : (test : ℕ → Bool) (o : Option ℕ) (x : ℕ) → option_and_then (λ y. cond (test y) (Some y) None) o ≡ Some x → o ≡ Some x
kept_of test None x e = absurd (cc)
kept_of test (Some y) x e = by_test (test y) e
  where
    by_test : (b : Bool) → cond {A = Option ℕ} b (Some y) None ≡ Some x → Some y ≡ Some x
    by_test true e = e
    by_test false e = absurd (cc)

kept_within : (from to : Shape) (j : Index) (x : ℕ) → kept_index from to j ≡ Some x → x < length from.indexes
kept_within from to j x e = (position-Some _ from.indexes x j (kept_of (λ y. same_index from to (index_at from y) j) (find_index from j.name) x e)).0

list_by : (from : Shape) (t : Table) (o : Option ℕ) → IsTable from t → ((x : ℕ) → o ≡ Some x → x < length from.indexes)
    → ListsEach t (option_map_or (list_of t) o (map (λ r. r.0) t.rows))
list_by from t None is within e = ids_once t.next e t.rows is.ordered
list_by from t (Some x) is within e = all_at (ListsEach t) t.lists x [] is.complete (subst (λ n. x < n) (sym is.one_each) (within x refl)) e

lists_each : (from to : Shape) (t : Table) (js : List Index) → IsTable from t
    → AllByRecursion (ListsEach (reshaped_table from to t)) (map (reshaped_list from to t) js)
lists_each from to t [] is = tt
lists_each from to t (j ∷ js) is = (
  λ id. list_by from t (kept_index from to j) is (kept_within from to j) id ∙ sym (ap (λ b. cond {A = ℕ} b 1 0) (has_stays from to id t.rows)),
  lists_each from to t js is,
)

pub reshaped_is_table : ReshapedIsTable
reshaped_is_table from to t is = record {
  ordered = rise_stays from to t.next t.rows is.ordered;
  one_each = length-map to.indexes (reshaped_list from to t);
  complete = lists_each from to t to.indexes is;
}
