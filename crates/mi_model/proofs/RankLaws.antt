-- A rank in counts of rows: those of a smaller key, and those of the same key earlier in the list.
-- Cited by `mi_sessions`.
use Rattle.std.proofs.Common.{◌≡◌, ℕ, ◌+◌, ◌<◌, ◌≤◌, zero, suc, Bool, true, false, cond, not, ◌&&◌}
use Rattle.std.proofs.Common.{inl, inr, List, [], ◌∷◌, length, take, refl, ap, ap₂, sym, ◌∙◌, subst, arith}
use Rattle.std.specs.Prelude.{◌==◌, IsTrue}
use Rattle.std.specs.List.{filter, AllByRecursion}
use Rattle.std.specs.Map.{lookup}
use Rattle.std.specs.Option.{is_some, unwrap_or}
use Rattle.std.specs.Ordering.{is_lt, is_eq, nat_cmp, ordering_then}
use Rattle.std.specs.Cmp.{IsTotalOrder, then_total, on_total, nat_cmp_total}
use Rattle.std.specs.declared.cmp.Ordering.{Ordering}
use Rattle.std.specs.declared.cmp.Ordering.TheVariants.{Less, Equal, Greater}
use Rattle.std.specs.declared.option.Option.TheVariants.{Some}
use Rattle.std.proofs.lemmas.Bool.{lt-ltb}
use Rattle.std.proofs.lemmas.Cmp.{ranked}
use Rattle.std.proofs.lemmas.Bool.Decides.{eqb_tells}
use Rattle.std.proofs.lemmas.List.Sums.{length-filter}
use Rattle.mi_catalog.specs.declared.index.IndexKind.{IndexKind}
use Rattle.mi_catalog.specs.declared.index.IndexKind.TheVariants.{Ordered, Ranked, Hashed, Sequenced}
use Rattle.mi_catalog.specs.Kinds.{is_sorted}
use Rattle.mi_catalog.specs.Shape.{index_at}
use Rattle.mi_catalog.specs.Key.{Row, compare_rows}
use Rattle.mi_model.specs.Table.{row, list_of, Rise, times, ListsEach}
use Rattle.mi_model.specs.View.{compare_ids, sorted, shown}
use Rattle.mi_model.specs.Change.{without}
use Rattle.mi_model.specs.LookUp.{rank_in, RanksCountRows}
use Rattle.mi_model.proofs.SortLaws.{both_ways, is_less}
use Rattle.mi_model.proofs.ViewLaws.{compare_ids_total, Lacks, filter_alike}
use Rattle.mi_model.proofs.TableLaws.{count_itself, not_same, lacks_of_count, all_get}
use Rattle.mi_model.proofs.StampLaws.{by_stamp, sorted-rises}
use Rattle.mi_model.proofs.LookUpLaws.{rank_first, rank_next, rank_counts, places_rise, stands, count-sorted, times-sorted}
use Rattle.mi_model.proofs.PlaceLaws.{IsOnce, once_of_each, here, here_behind, listed_within, sorted_listed}

-- a count of those that are less, or equal and earlier, is two counts
split_step : (r k : Ordering) (a : ℕ) (all less same : List ℕ) → length all ≡ length less + length same
    → length (cond (is_lt (ordering_then r k)) (a ∷ all) all) ≡ length (cond (is_lt r) (a ∷ less) less) + length (cond (is_eq r && is_lt k) (a ∷ same) same)
split_step Less k a all less same h = omega arith
split_step Equal Less a all less same h = omega arith
split_step Equal Equal a all less same h = omega arith
split_step Equal Greater a all less same h = omega arith
split_step Greater k a all less same h = omega arith

split_count : (f g : ℕ → Ordering) (ids : List ℕ)
    → length (filter (λ a. is_lt (ordering_then (f a) (g a))) ids)
    ≡ length (filter (λ a. is_lt (f a)) ids) + length (filter (λ a. is_eq (f a) && is_lt (g a)) ids)
split_count f g [] = omega arith
split_count f g (a ∷ ids) = split_step (f a) (g a) a _ _ _ (split_count f g ids)

less_suc : (m n : ℕ) → is_lt (nat_cmp (suc m) (suc n)) ≡ is_lt (nat_cmp m n)
less_suc m n =
    both_ways (is_lt (nat_cmp m n))
    (λ yes. let l : m < n = ranked m n Less (sym (is_less _ yes)) in
    ap (λ b. is_lt (cond b Less (cond (suc m == suc n) Equal Greater))) (lt-ltb (suc m) (suc n) (omega arith)) ∙ sym yes)
    (λ isnt. both_ways (is_lt (nat_cmp (suc m) (suc n)))
    (λ yes. absurd (
    let l : suc m < suc n = ranked (suc m) (suc n) Less (sym (is_less _ yes)) in
    let k : is_lt (nat_cmp m n) ≡ true = ap (λ b. is_lt (cond b Less (cond (m == n) Equal Greater))) (lt-ltb m n (omega arith)) in
    let h : true ≡ false = sym k ∙ isnt in cc))
    (λ no. no ∙ sym isnt))

never_less : (m : ℕ) → is_lt (nat_cmp m 0) ≡ false
never_less m = both_ways (is_lt (nat_cmp m 0)) (λ yes. absurd (let l : m < 0 = ranked m 0 Less (sym (is_less _ yes)) in omega arith)) (λ isnt. isnt)

and_false : (b c : Bool) → c ≡ false → (b && c) ≡ false
and_false true c is = is
and_false false c is = refl

and_true : (b c : Bool) → c ≡ true → (b && c) ≡ b
and_true true c is = is
and_true false c is = refl

none_early : (q : ℕ → Bool) (g : ℕ → ℕ) (ids : List ℕ) → filter (λ b. q b && is_lt (nat_cmp (g b) 0)) ids ≡ []
none_early q g [] = refl
none_early q g (a ∷ ids) =
    ap (λ b. cond b (a ∷ filter (λ b. q b && is_lt (nat_cmp (g b) 0)) ids)
    (filter (λ b. q b && is_lt (nat_cmp (g b) 0)) ids)) (and_false (q a) _ (never_less (g a)))
    ∙ none_early q g ids

-- the ids of the first n places
early : (q : ℕ → Bool) (ids : List ℕ) (n : ℕ) → IsOnce ids → filter (λ b. q b && is_lt (nat_cmp (rank_in ids b) n)) ids ≡ filter q (take n ids)
early q [] zero once = refl
early q [] (suc n) once = refl
early q (a ∷ ids) zero once = none_early q (rank_in (a ∷ ids)) (a ∷ ids)
early q (a ∷ ids) (suc n) once =
    let lacks : Lacks a ids = lacks_of_count a ids (let o : cond {A = ℕ} (a == a) 1 0 + times a ids ≤ 1 = once a in
    let c : cond {A = ℕ} (a == a) 1 0 ≡ 1 = ap (λ b. cond {A = ℕ} b 1 0) (count_itself a) in omega (arith, o, c)) in
    let fewer : IsOnce ids = λ id. (let o : cond {A = ℕ} (a == id) 1 0 + times id ids ≤ 1 = once id in omega (arith, o)) in
    let test : ℕ → Bool = λ b. q b && is_lt (nat_cmp (rank_in (a ∷ ids) b) (suc n)) in
    ap (λ b. cond b (a ∷ filter test ids) (filter test ids))
    (and_true (q a) _ (ap (λ r. is_lt (nat_cmp r (suc n))) (rank_first a a ids (count_itself a))
    ∙ ap (λ b. is_lt (cond b Less (cond (0 == suc n) Equal Greater))) (lt-ltb 0 (suc n) (omega arith))))
    ∙ ap (λ rest. cond (q a) (a ∷ rest) rest)
    (filter_alike a test (λ b. q b && is_lt (nat_cmp (rank_in ids b) n)) (λ b ne. ap (λ r. q b && r) (
    ap (λ r. is_lt (nat_cmp r (suc n))) (rank_next b a ids (not_same a b (λ e. ne (sym e))) ∙ omega arith) ∙ less_suc (rank_in ids b) n)) ids lacks
    ∙ early q ids n fewer)

-- with and without an id
step_same : (b : Bool) (a n : ℕ) (kept less : List ℕ) → length kept ≡ cond {A = ℕ} b n 0 + length less
    → length (cond b (a ∷ kept) kept) ≡ cond {A = ℕ} b (1 + n) 0 + length less
step_same true a n kept less h = omega arith
step_same false a n kept less h = omega arith

step_other : (b c : Bool) (a n : ℕ) (kept less : List ℕ) → length kept ≡ cond {A = ℕ} c n 0 + length less
    → length (cond b (a ∷ kept) kept) ≡ cond {A = ℕ} c (0 + n) 0 + length (cond b (a ∷ less) less)
step_other true true a n kept less h = omega arith
step_other true false a n kept less h = omega arith
step_other false true a n kept less h = omega arith
step_other false false a n kept less h = omega arith

count-without : (p : ℕ → Bool) (e : ℕ) (ids : List ℕ) → length (filter p ids) ≡ cond {A = ℕ} (p e) (times e ids) 0 + length (filter p (without e ids))
count-without p e [] = elim (p e) as (λ b. 0 ≡ cond {A = ℕ} b 0 0 + 0) [ true ↦ omega arith | false ↦ omega arith ]
count-without p e (a ∷ ids) =
    let rest : length (filter p ids) ≡ cond {A = ℕ} (p e) (times e ids) 0 + length (filter p (without e ids)) = count-without p e ids in
    elim (eqb_tells a e) [
      | inl is ↦
          ap (λ b. length (cond b (a ∷ filter p ids) (filter p ids))) (ap p is.1)
          ∙ step_same (p e) a (times e ids) (filter p ids) (filter p (without e ids)) rest
          ∙ sym (ap (λ b. cond {A = ℕ} (p e) (cond {A = ℕ} b 1 0 + times e ids) 0 + length (filter p (cond (not b) (a ∷ without e ids) (without e ids)))) is.0)
      | inr isnt ↦
          step_other (p a) (p e) a (times e ids) (filter p ids) (filter p (without e ids)) rest
          ∙ sym (ap (λ b. cond {A = ℕ} (p e) (cond {A = ℕ} b 1 0 + times e ids) 0
          + length (filter p (cond (not b) (a ∷ without e ids) (without e ids)))) isnt.0)
    ]

step_row : (b : Bool) (n : ℕ) (less : List ℕ) (r : Row) (rows : List Row) → n ≡ 1 → length less ≡ length rows
    → cond {A = ℕ} b n 0 + length less ≡ length (cond b (r ∷ rows) rows)
step_row true n less r rows one h = omega arith
step_row false n less r rows one h = omega arith

-- rows counted by their ids
count_each : (p : ℕ → Bool) (next : ℕ) (rows : List Row) → Rise next rows → (ids : List ℕ) → ((id : ℕ) → times id ids ≡ here id rows)
    → length (filter p ids) ≡ length (filter (λ (r : Row). p r.0) rows)
count_each p next [] up [] each = refl
count_each p next [] up (a ∷ ids) each =
    absurd (let some : 0 < times a (a ∷ ids) = stands a 0 (a ∷ ids) refl in let none : times a (a ∷ ids) ≡ 0 = each a in omega arith)
count_each p next (r ∷ rows) up ids each =
    count-without p r.0 ids
    ∙ step_row (p r.0) (times r.0 ids) (filter p (without r.0 ids)) r (filter (λ (q : Row). p q.0) rows)
    (each r.0 ∙ ap (λ b. cond {A = ℕ} (is_some (cond b (Some r.1) (lookup (λ k. k == r.0) rows))) 1 0) (count_itself r.0))
    (count_each p next rows up.2 (without r.0 ids) (λ id. here_behind id r rows up.1 ids (each id)))

-- each row is the row of its id
found_behind : (r : Row) (rows others : List Row) → AllByRecursion (λ q. r.0 < q.0) others → AllByRecursion (λ q. lookup (λ k. k == q.0) rows ≡ Some q.1) others
    → AllByRecursion (λ q. lookup (λ k. k == q.0) (r ∷ rows) ≡ Some q.1) others
found_behind r rows [] above found = tt
found_behind r rows (q ∷ others) above found = (
  ap (λ b. cond b (Some r.1) (lookup (λ k. k == q.0) rows)) (not_same r.0 q.0 (λ is. absurd (let l : r.0 < q.0 = above.0 in omega arith))) ∙ found.0,
  found_behind r rows others above.1 found.1,
)

each_found : (next : ℕ) (rows : List Row) → Rise next rows → AllByRecursion (λ q. lookup (λ k. k == q.0) rows ≡ Some q.1) rows
each_found next [] up = tt
each_found next (r ∷ rows) up =
    (ap (λ b. cond b (Some r.1) (lookup (λ k. k == r.0) rows)) (count_itself r.0), found_behind r rows rows up.1 (each_found next rows up.2))

filter_rows : (p q : Row → Bool) (all rows : List Row) → ((r : Row) → lookup (λ k. k == r.0) all ≡ Some r.1 → p r ≡ q r)
    → AllByRecursion (λ r. lookup (λ k. k == r.0) all ≡ Some r.1) rows → filter p rows ≡ filter q rows
filter_rows p q all [] same found = refl
filter_rows p q all (r ∷ rows) same found =
    ap (λ b. cond b (r ∷ filter p rows) (filter p rows)) (same r found.0) ∙ ap (λ rest. cond (q r) (r ∷ rest) rest) (filter_rows p q all rows same found.1)

shown_sorted : (kind : IndexKind) (order : ℕ → ℕ → Ordering) (ids : List ℕ) → IsTrue (is_sorted kind) → shown kind order ids ≡ sorted order ids
shown_sorted Ordered order ids is = refl
shown_sorted Ranked order ids is = refl
shown_sorted Hashed order ids is = absurd (cc)
shown_sorted Sequenced order ids is = absurd (cc)

-- an id's rank in a sorted list, counted in the list as it stood
rank_of_sorted : (order : ℕ → ℕ → Ordering) → IsTotalOrder order → (ids : List ℕ) (e : ℕ) → IsOnce ids → 0 < times e ids
    → rank_in (sorted order ids) e ≡ length (filter (λ a. is_lt (order a e)) ids) + length (filter (λ a. is_eq (order a e)) (take (rank_in ids e) ids))
rank_of_sorted order total ids e once some =
    let both : IsTotalOrder (by_stamp total (rank_in ids)) = then_total total (on_total (rank_in ids) nat_cmp_total) in
    sym (rank_counts both e (sorted order ids)
    (sorted-rises total (rank_in ids) ids (places_rise ids once)) (subst (λ n. 0 < n) (sym (times-sorted e order ids)) some))
    ∙ count-sorted (λ a. is_lt (by_stamp total (rank_in ids) a e)) order ids
    ∙ split_count (λ a. order a e) (λ a. nat_cmp (rank_in ids a) (rank_in ids e)) ids
    ∙ ap (λ n. length (filter (λ a. is_lt (order a e)) ids) + n) (ap length (early (λ a. is_eq (order a e)) ids (rank_in ids e) once))

pub ranks_count_rows : RanksCountRows
ranks_count_rows s t x e is sorts there =
    let order : ℕ → ℕ → Ordering = compare_ids (index_at s x) t in
    let within : x < length s.indexes = listed_within s x (sorted_listed (index_at s x).kind sorts) in
    let each : ListsEach t (list_of t x) = all_get (ListsEach t) t.lists x is.complete (subst (λ n. x < n) (sym is.one_each) within) in
    let once : IsOnce (list_of t x) = once_of_each t (list_of t x) each in
    let some : 0 < times e (list_of t x) = (let n : times e (list_of t x) ≡ 1 = each e ∙ ap (λ b. cond {A = ℕ} b 1 0) there in omega (arith, n)) in
    ap (λ ids. rank_in ids e) (shown_sorted (index_at s x).kind order (list_of t x) sorts)
    ∙ rank_of_sorted order (compare_ids_total (index_at s x) t) (list_of t x) e once some
    ∙ ap₂ (λ m n. m + n)
    (count_each (λ a. is_lt (order a e)) t.next t.rows is.ordered (list_of t x) each
    ∙ ap length (filter_rows (λ r. is_lt (order r.0 e)) (λ r. is_lt (compare_rows (index_at s x).parts r (row t e))) t.rows t.rows
    (λ r found. ap (λ o. is_lt (compare_rows (index_at s x).parts (r.0, unwrap_or o []) (row t e))) found) (each_found t.next t.rows is.ordered))
    ∙ length-filter (λ r. is_lt (compare_rows (index_at s x).parts r (row t e))) t.rows)
    (length-filter (λ a. is_eq (order a e)) (take (rank_in (list_of t x) e) (list_of t x)))
