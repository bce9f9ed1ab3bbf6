-- What a binary search finds among rows in the order of their ids.
-- Cited by `PlainTable::get` and `conflict::search`.
use Rattle.std.proofs.Common.{◌≡◌, ◌≢◌, ℕ, zero, suc, ◌<◌, ◌≤◌, cond, List, [], ◌∷◌, length, Some}
use Rattle.std.proofs.Common.{None, Result, Ok, Err, IfOk, IfErr, inl, inr, refl, ap, sym, ◌∙◌, arith}
use Rattle.std.specs.Prelude.{◌==◌}
use Rattle.std.specs.List.{AllByRecursion}
use Rattle.std.specs.List.Sorted.{IsSearchInRange, IsBinarySearchResult, IsNonDecreasingBy}
use Rattle.std.specs.Map.{lookup}
use Rattle.std.specs.Ordering.{nat_cmp, ordering_index}
use Rattle.std.proofs.lemmas.Cmp.{ranked}
use Rattle.std.proofs.lemmas.List.Sorted.{IsNonDecreasingBy-from_default}
use Rattle.std.proofs.lemmas.Bool.{cases_lt}
use Rattle.std.proofs.lemmas.Bool.Decides.{nat_tests}
use Rattle.mi_catalog.specs.Key.{Row}
use Rattle.mi_model.specs.Table.{Rise}
use Rattle.mi_model.proofs.TableLaws.{count_itself, not_same}
use Rattle.mi_plain.specs.Rows.{row_at, AreInOrder, IsRowOf}

all_at : (P : Row → Type 0) (rows : List Row) (i : ℕ) → AllByRecursion P rows → i < length rows → P (row_at rows i)
all_at P [] i all l = absurd (omega (arith, l))
all_at P (r ∷ rows) zero all l = all.0
all_at P (r ∷ rows) (suc i) all l = all_at P rows i all.1 (omega (arith, l))

-- rows that rise are in order
pub in_order : (next : ℕ) (rows : List Row) → Rise next rows → AreInOrder rows
in_order next [] up i j l within = absurd (omega (arith, within))
in_order next (r ∷ rows) up zero zero l within = absurd (omega (arith, l))
in_order next (r ∷ rows) up zero (suc j) l within = all_at (λ q. r.0 < q.0) rows j up.1 (omega (arith, within))
in_order next (r ∷ rows) up (suc i) zero l within = absurd (omega (arith, l))
in_order next (r ∷ rows) up (suc i) (suc j) l within = in_order next rows up.2 i j (omega (arith, l)) (omega (arith, within))

found_first : (id : ℕ) (r : Row) (rows : List Row) → r.0 ≡ id → lookup (λ a. a == id) (r ∷ rows) ≡ Some r.1
found_first id r rows is = ap (λ k. cond (k == id) (Some r.1) (lookup (λ a. a == id) rows)) is
    ∙ ap (λ b. cond b (Some r.1) (lookup (λ a. a == id) rows)) (count_itself id)

found_later : (id : ℕ) (r : Row) (rows : List Row) → r.0 ≢ id → lookup (λ a. a == id) (r ∷ rows) ≡ lookup (λ a. a == id) rows
found_later id r rows other = ap (λ b. cond b (Some r.1) (lookup (λ a. a == id) rows)) (not_same r.0 id other)

find_absent : (rows : List Row) (id : ℕ) → ((j : ℕ) → j < length rows → (row_at rows j).0 ≢ id) → lookup (λ a. a == id) rows ≡ None
find_absent [] id others = refl
find_absent (r ∷ rows) id others = found_later id r rows (others zero (omega arith)) ∙ find_absent rows id (λ j l. others (suc j) (omega (arith, l)))

find_present : (rows : List Row) (id i : ℕ) → i < length rows → (row_at rows i).0 ≡ id
    → ((j : ℕ) → j < i → (row_at rows j).0 ≢ id) → lookup (λ a. a == id) rows ≡ Some (row_at rows i).1
find_present [] id i within is others = absurd (omega (arith, within))
find_present (r ∷ rows) id zero within is others = found_first id r rows is
find_present (r ∷ rows) id (suc i) within is others =
    found_later id r rows (others zero (omega arith)) ∙ find_present rows id i (omega (arith, within)) is (λ j l. others (suc j) (omega (arith, l)))

module _ (rows : List Row) (ordered : AreInOrder rows) (id : ℕ) where
  comparisons_rise : IsNonDecreasingBy (λ row. ordering_index (nat_cmp row.0 id)) rows
  comparisons_rise = IsNonDecreasingBy-from_default (λ row. ordering_index (nat_cmp row.0 id)) rows (0, []) (λ i j le within.
      let rise : (row_at rows i).0 ≤ (row_at rows j).0 = grind (arith, ordered i j, λ (same : i ≡ j). ap (λ k. (row_at rows k).0) same) in
      grind (arith, nat_tests))

  -- a binary search ends at the row, or no row has the id
  pub searched : (r : Result ℕ ℕ) → IsSearchInRange r (length rows) → IsBinarySearchResult (λ row. nat_cmp row.0 id) rows r
      → record { found : IfOk r (IsRowOf rows id); absent : IfErr r (λ i. lookup (λ a. a == id) rows ≡ None) }
  searched (Ok at) within equal =
      let is : (row_at rows at).0 ≡ id = ranked _ id _ (sym (equal (0, []))) in
      record {
        found = record {
          within = within;
          found = find_present rows id at within is
              (λ j l same. let k : (row_at rows j).0 < (row_at rows at).0 = ordered j at l within in absurd (omega (arith, k, same, is)));
        };
        absent = tt;
      }
  searched (Err at) within parted = record {
    found = tt;
    absent = find_absent rows id (λ j l same.
        elim (cases_lt j at) [
          | inl before ↦ absurd (let k : (row_at rows j).0 < id = ranked _ id _ (sym ((parted comparisons_rise).0 j (0, []) (omega arith) before)) in
              omega (arith, k, same))
          | inr behind ↦ absurd (let k : id < (row_at rows j).0 = ranked _ id _ (sym ((parted comparisons_rise).1 j (0, []) behind l)) in
              omega (arith, k, same))
        ]);
  }
