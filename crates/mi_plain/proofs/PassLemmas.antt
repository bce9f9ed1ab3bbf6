-- One pass over a list of ids: the first, and the last, of those that pass a test.
-- Cited by `PlainTable::count_before`, `PlainTable::first_of`, `PlainTable::first_past`, `PlainTable::last_before` and 4 more.
use Rattle.std.proofs.Common.{◌≡◌, ℕ, zero, suc, ◌<◌, ◌≤◌, Bool, true, false, cond, not, Option, Some, None, List}
use Rattle.std.proofs.Common.{[], ◌∷◌, length, slice_get, get_or, take, drop, refl, ap, sym, ◌∙◌, subst, arith}
use Rattle.std.proofs.lemmas.List.{drop_all}
use Rattle.std.proofs.lemmas.List.Sums.{prefix_len-le-length}
use Rattle.std.proofs.lemmas.Bool.{ltb-false}
use Rattle.std.specs.Prelude.{nat_lt, ◌==◌, if◌then◌else◌}
use Rattle.std.specs.List.{filter, fold, position}
use Rattle.std.specs.Option.{option_map_or}
use Rattle.std.specs.Ordering.{is_lt}
use Rattle.std.specs.Cmp.{IsTotalOrder}
use Rattle.std.specs.declared.cmp.Ordering.{Ordering}
use Rattle.mi_model.specs.Table.{Table, has, times, ListsEach}
use Rattle.mi_model.specs.View.{place, sorted}
use Rattle.mi_model.specs.LookUp.{rank_in}
use Rattle.mi_model.proofs.SortLaws.{both_ways, Ascends, ascends_place}
use Rattle.mi_model.proofs.LookUpLaws.{sooner, later, first-place, last-place, last_in, rank_at, stands}

-- the first from the best so far on
abbrev pub first_kept : (ℕ → ℕ → Ordering) → (ℕ → Bool) → Option ℕ → List ℕ → Option ℕ
first_kept order q best [] = best
first_kept order q best (a ∷ ids) = first_kept order q (if q a then (if option_map_or (λ b. is_lt (order a b)) best true then Some a else best) else best) ids

-- and the last
abbrev pub last_kept : (ℕ → ℕ → Ordering) → (ℕ → Bool) → Option ℕ → List ℕ → Option ℕ
last_kept order q best [] = best
last_kept order q best (a ∷ ids) = last_kept order q
    (if q a then (if option_map_or (λ b. not (is_lt (order a b))) best true then Some a else best) else best) ids

is_sooner : (order : ℕ → ℕ → Ordering) (a : ℕ) (best : Option ℕ) → cond (option_map_or (λ b. is_lt (order a b)) best true) (Some a) best ≡ sooner order a best
is_sooner order a None = refl
is_sooner order a (Some b) = refl

is_later : (order : ℕ → ℕ → Ordering) (a : ℕ) (best : Option ℕ)
    → cond (option_map_or (λ b. not (is_lt (order a b))) best true) (Some a) best ≡ later order a best
is_later order a None = refl
is_later order a (Some b) = elim (is_lt (order a b)) as (λ l. cond (not l) (Some a) (Some b) ≡ cond l (Some b) (Some a)) [ true ↦ refl | false ↦ refl ]

first_fold : (order : ℕ → ℕ → Ordering) (q : ℕ → Bool) (done ids : List ℕ)
    → first_kept order q (slice_get done 0) ids ≡ slice_get (fold (λ d e. place order e d) done (filter q ids)) 0
first_fold order q done [] = refl
first_fold order q done (a ∷ ids) =
    both_ways (q a)
    (λ passes. ap (λ b. first_kept order q
    (cond b (cond (option_map_or (λ c. is_lt (order a c)) (slice_get done 0) true) (Some a) (slice_get done 0)) (slice_get done 0)) ids)
    passes
    ∙ ap (λ best. first_kept order q best ids) (is_sooner order a (slice_get done 0) ∙ sym (first-place order a done))
    ∙ first_fold order q (place order a done) ids
    ∙ ap (λ b. slice_get (fold (λ d e. place order e d) done (cond b (a ∷ filter q ids) (filter q ids))) 0) (sym passes))
    (λ isnt. ap (λ b. first_kept order q
    (cond b (cond (option_map_or (λ c. is_lt (order a c)) (slice_get done 0) true) (Some a) (slice_get done 0)) (slice_get done 0)) ids)
    isnt
    ∙ first_fold order q done ids
    ∙ ap (λ b. slice_get (fold (λ d e. place order e d) done (cond b (a ∷ filter q ids) (filter q ids))) 0) (sym isnt))

-- the pass gives the first of those that pass, sorted
first_kept-is : (order : ℕ → ℕ → Ordering) (q : ℕ → Bool) (ids : List ℕ) → first_kept order q None ids ≡ slice_get (sorted order (filter q ids)) 0
first_kept-is order q ids = first_fold order q [] ids

pub first_ends : (order : ℕ → ℕ → Ordering) (q : ℕ → Bool) (best : Option ℕ) (ids others : List ℕ) (i : ℕ) → others ≡ ids → length others ≤ i
    → first_kept order q best (drop i others) ≡ first_kept order q None others → best ≡ slice_get (sorted order (filter q ids)) 0
first_ends order q best ids others i same past left =
    sym (ap (first_kept order q best) (drop_all i others past)) ∙ left ∙ ap (first_kept order q None) same ∙ first_kept-is order q ids

module _ {order : ℕ → ℕ → Ordering} (o : IsTotalOrder order) where
  last_fold : (q : ℕ → Bool) (done ids : List ℕ) → Ascends order done
      → last_kept order q (last_in done) ids ≡ last_in (fold (λ d e. place order e d) done (filter q ids))
  last_fold q done [] up = refl
  last_fold q done (a ∷ ids) up =
      both_ways (q a)
      (λ passes. ap (λ b. last_kept order q
      (cond b (cond (option_map_or (λ c. not (is_lt (order a c))) (last_in done) true) (Some a) (last_in done)) (last_in done)) ids)
      passes
      ∙ ap (λ best. last_kept order q best ids) (is_later order a (last_in done) ∙ sym (last-place o a done up))
      ∙ last_fold q (place order a done) ids (ascends_place o a done up)
      ∙ ap (λ b. last_in (fold (λ d e. place order e d) done (cond b (a ∷ filter q ids) (filter q ids)))) (sym passes))
      (λ isnt. ap (λ b. last_kept order q
      (cond b (cond (option_map_or (λ c. not (is_lt (order a c))) (last_in done) true) (Some a) (last_in done)) (last_in done)) ids)
      isnt
      ∙ last_fold q done ids up
      ∙ ap (λ b. last_in (fold (λ d e. place order e d) done (cond b (a ∷ filter q ids) (filter q ids)))) (sym isnt))

  -- and the last of them
  last_kept-is : (q : ℕ → Bool) (ids : List ℕ) → last_kept order q None ids ≡ last_in (sorted order (filter q ids))
  last_kept-is q ids = last_fold q [] ids tt

  pub last_ends : (q : ℕ → Bool) (best : Option ℕ) (ids others : List ℕ) (i : ℕ) → others ≡ ids → length others ≤ i
      → last_kept order q best (drop i others) ≡ last_kept order q None others → best ≡ last_in (sorted order (filter q ids))
  last_ends q best ids others i same past left =
      sym (ap (last_kept order q best) (drop_all i others past)) ∙ left ∙ ap (last_kept order q None) same ∙ last_kept-is q ids

one_at_most : (b : Bool) → cond {A = ℕ} b 1 0 ≤ 1
one_at_most true = omega arith
one_at_most false = omega arith

there_if : (b : Bool) (n : ℕ) → 0 < n → n ≡ cond b 1 0 → b ≡ true
there_if true n some is = refl
there_if false n some is = absurd (omega (arith, some, is))

pub slice_get_or : (xs : List ℕ) (i d : ℕ) → i < length xs → slice_get xs i ≡ Some (get_or xs i d)
slice_get_or [] i d within = absurd (omega arith)
slice_get_or (x ∷ xs) zero d within = refl
slice_get_or (x ∷ xs) (suc i) d within = slice_get_or xs i d (omega arith)

-- the id at place i has the rank i in a list that has each id of a table once
pub place_is : (t : Table) (ids others : List ℕ) (i d : ℕ) → others ≡ ids → ListsEach t ids → i < length others → i ≡ rank_in ids (get_or others i d)
place_is t ids others i d same each within =
    let is : i < length ids = subst (λ xs. i < length xs) same within in
    sym (ap (λ xs. rank_in ids (get_or xs i d)) same
    ∙ rank_at i (get_or ids i d) ids (λ id. subst (λ n. n ≤ 1) (sym (each id)) (one_at_most (has t id))) (slice_get_or ids i d is))

-- and it is there
pub there_is : (t : Table) (ids others : List ℕ) (i d : ℕ) → others ≡ ids → ListsEach t ids → i < length others → has t (get_or others i d) ≡ true
there_is t ids others i d same each within =
    let is : i < length ids = subst (λ xs. i < length xs) same within in
    ap (λ xs. has t (get_or xs i d)) same
    ∙ there_if (has t (get_or ids i d)) (times (get_or ids i d) ids) (stands (get_or ids i d) i ids (slice_get_or ids i d is)) (each (get_or ids i d))

-- of the first n at most n pass
pub count-take : (q : ℕ → Bool) (n : ℕ) (ids : List ℕ) → length (filter q (take n ids)) ≤ n
count-take q zero ids = omega arith
count-take q (suc n) [] = omega arith
count-take q (suc n) (a ∷ ids) =
    let few : length (filter q (take n ids)) ≤ n = count-take q n ids in
    elim (q a) as (λ b. length (cond b (a ∷ filter q (take n ids)) (filter q (take n ids))) ≤ suc n) [ true ↦ omega (arith, few) | false ↦ omega (arith, few) ]

no_place_step : (b : Bool) (m n : ℕ) → (b ≡ false → n ≤ m) → m ≤ n → cond b (Some m) None ≡ None → n ≡ m
no_place_step true m n beyond within h = absurd (cc)
no_place_step false m n beyond within h = let l : n ≤ m = beyond refl in omega (arith, l, within)

-- an id that has no place in a list has its length for a rank
pub no_place : (id : ℕ) (ids : List ℕ) → position (λ a. a == id) ids ≡ None → length ids ≡ rank_in ids id
no_place id ids h =
    no_place_step (nat_lt (rank_in ids id) (length ids)) (rank_in ids id) (length ids)
    (ltb-false (rank_in ids id) (length ids)) (prefix_len-le-length (λ a. not (a == id)) ids) h
