-- Where the rows that meet a bound begin.
-- Cited by `PlainTable::first_from`, `PlainTable::last_to` and `PlainTable::walk_range`.
use Rattle.std.proofs.Common.{◌≡◌, ℕ, ◌+◌, ◌-◌, ◌≤◌, min, zero, suc, Bool, true, false, inl, inr, List, [], ◌∷◌, ◌++◌, map, length, take, drop, reverse}
use Rattle.std.proofs.Common.{Some, None, refl, ap, sym, ◌∙◌, arith}
use Rattle.std.specs.Prelude.{slice_get, IsTrue}
use Rattle.std.proofs.lemmas.Bool.{cases_lt}
use Rattle.std.proofs.lemmas.List.{length-drop, length-take, length-reverse, take_all, take-take, drop-take, take-append-drop, reverse-append}
use Rattle.std.proofs.Math.Seq.{take-append_seam}
use Rattle.mi_value.specs.declared.bound.Lower.{Lower}
use Rattle.mi_value.specs.declared.bound.Lower.TheVariants as lower
use Rattle.mi_value.specs.declared.bound.Upper.{Upper}
use Rattle.mi_value.specs.declared.bound.Upper.TheVariants as upper
use Rattle.mi_catalog.specs.Kinds.{is_sorted}
use Rattle.mi_catalog.specs.Shape.{Shape, index_at}
use Rattle.mi_model.specs.Table.{Table, row, has, IsTable, ListsEach}
use Rattle.mi_model.specs.View.{view}
use Rattle.mi_model.specs.LookUp.{before_place}
use Rattle.mi_model.specs.Page.{between, range}
use Rattle.mi_model.specs.Walk.{turned, rows_from}
use Rattle.mi_model.proofs.PlaceLaws.{IsOnce, once_of_each, sorted_listed, there_at, slice_get-reverse}
use Rattle.mi_model.proofs.QueryLaws.{rank_from, rank_to, from_all, to_all, to_within, between_ranks, segment_empty}
use Rattle.mi_model.proofs.WalkLaws.{once_turned, each_turned, from_at, reverse_end, each_listed}
use Rattle.mi_plain.specs.Boundary.{begun}

head_drop : (k : ℕ) (ids : List ℕ) → slice_get (drop k ids) 0 ≡ slice_get ids k
head_drop zero ids = refl
head_drop (suc k) [] = refl
head_drop (suc k) (a ∷ ids) = head_drop k ids

head_none : (ids : List ℕ) → slice_get ids 0 ≡ None → ids ≡ []
head_none [] none = refl
head_none (a ∷ ids) none = absurd (let bad : Some a ≡ None = none in cc)

take_at : (k : ℕ) (ids : List ℕ) → slice_get (take (suc k) ids) k ≡ slice_get ids k
take_at zero [] = refl
take_at zero (a ∷ ids) = refl
take_at (suc k) [] = refl
take_at (suc k) (a ∷ ids) = take_at k ids

-- the last of the first n ids
pub last_taken : (n : ℕ) (ids : List ℕ) → n ≤ length ids → slice_get (reverse (take n ids)) 0 ≡ before_place ids n
last_taken zero ids le = refl
last_taken (suc k) ids le =
    let long : length (take (suc k) ids) ≡ min (suc k) (length ids) = length-take (suc k) ids in
    let place : length (take (suc k) ids) - 1 - 0 ≡ k = omega arith in
    slice_get-reverse (take (suc k) ids) 0 (omega arith) ∙ ap (slice_get (take (suc k) ids)) place ∙ take_at k ids

module _ (s : Shape) (t : Table) (x : ℕ) (sorted : IsTrue (is_sorted (index_at s x).kind)) where
  up_between : (low : Lower) → between s t x low upper.All ≡ drop (rank_from s t x low) (view s t x)
  up_between low =
      between_ranks s t x low upper.All sorted
      ∙ ap (λ n. drop (rank_from s t x low) (take n (view s t x))) (to_all s t x)
      ∙ ap (drop (rank_from s t x low)) (take_all (length (view s t x)) (view s t x) (omega arith))

  down_between : (high : Upper) → between s t x lower.All high ≡ take (rank_to s t x high) (view s t x)
  down_between high =
      between_ranks s t x lower.All high sorted ∙ ap (λ n. drop n (take (rank_to s t x high) (view s t x))) (from_all s t x)

  -- the first id that meets a lower bound, and the last that meets an upper one, by their ranks
  pub up_first : (low : Lower) (k : ℕ) → rank_from s t x low ≡ k → slice_get (between s t x low upper.All) 0 ≡ slice_get (view s t x) k
  up_first low k e =
      ap (λ ids. slice_get ids 0) (up_between low) ∙ head_drop (rank_from s t x low) (view s t x) ∙ ap (slice_get (view s t x)) e

  pub down_first : (high : Upper) (n : ℕ) → rank_to s t x high ≡ n → slice_get (reverse (between s t x lower.All high)) 0 ≡ before_place (view s t x) n
  down_first high n e =
      ap (λ ids. slice_get (reverse ids) 0) (down_between high)
      ∙ last_taken (rank_to s t x high) (view s t x) (to_within s t x high)
      ∙ ap (before_place (view s t x)) e

  abbrev from : Lower → ℕ
  from low = rank_from s t x low

  abbrev to : Upper → ℕ
  to high = rank_to s t x high

  take_both : (m n : ℕ) (ids : List ℕ) → take m (take n ids) ≡ take (min m n) ids
  take_both m n ids = elim (cases_lt m n) [
    | inl less ↦ take-take m n ids (omega arith) ∙ ap (λ k. take k ids) (let e : m ≡ min m n = omega arith in e)
    | inr more ↦
        let long : length (take n ids) ≡ min n (length ids) = length-take n ids in
        take_all m (take n ids) (omega arith) ∙ ap (λ k. take k ids) (let e : n ≡ min m n = omega arith in e)
  ]

  -- as many from where a range begins as stand between its ranks
  part : (low : Lower) (high : Upper) (reversed : Bool)
      → take (to high - from low) (begun s t x low high reversed) ≡ turned reversed (between s t x low high)
  part low high true =
      let ids : List ℕ = take (to high) (view s t x) in
      let long : length ids ≡ min (to high) (length (view s t x)) = length-take (to high) (view s t x) in
      let within : to high ≤ length (view s t x) = to_within s t x high in
      let mine : to high - from low ≡ length (reverse (drop (from low) ids)) =
      omega (arith, long, within, length-reverse (drop (from low) ids), length-drop (from low) ids) in
      ap (λ k. take (to high - from low) (reverse k)) (down_between high)
      ∙ ap (take (to high - from low)) (ap reverse (sym (take-append-drop (from low) ids)) ∙ reverse-append (take (from low) ids) (drop (from low) ids))
      ∙ ap (λ n. take n (reverse (drop (from low) ids) ++ reverse (take (from low) ids))) mine
      ∙ take-append_seam (reverse (drop (from low) ids)) (reverse (take (from low) ids))
      ∙ ap reverse (sym (between_ranks s t x low high sorted))
  part low high false = ap (take (to high - from low)) (up_between low) ∙ cut ∙ sym (between_ranks s t x low high sorted)
    where
      cut : take (to high - from low) (drop (from low) (view s t x)) ≡ drop (from low) (take (to high) (view s t x))
      cut = elim (cases_lt (to high) (from low)) [
        | inl none ↦
            ap (λ n. take n (drop (from low) (view s t x))) (let e : to high - from low ≡ 0 = omega arith in e)
            ∙ sym (segment_empty (from low) (to high) (view s t x) (omega arith))
        | inr some ↦
            sym (drop-take (from low) (to high - from low) (view s t x))
            ∙ ap (λ n. drop (from low) (take n (view s t x))) (let e : from low + (to high - from low) ≡ to high = omega arith in e)
      ]

  pub range_part : (low : Lower) (high : Upper) (reversed : Bool) (limit : ℕ)
      → take (min limit (to high - from low)) (begun s t x low high reversed) ≡ (range s t x low high reversed limit).ids
  range_part low high reversed limit =
      sym (take_both limit (to high - from low) (begun s t x low high reversed)) ∙ ap (take limit) (part low high reversed)

  -- where none begins, there are no rows
  pub range_none : (low : Lower) (high : Upper) (reversed : Bool) (limit : ℕ) → slice_get (begun s t x low high reversed) 0 ≡ None
      → (range s t x low high reversed limit).ids ≡ []
  range_none low high reversed limit none =
      sym (range_part low high reversed limit) ∙ ap (take (min limit (to high - from low))) (head_none (begun s t x low high reversed) none)
      ∙ take_all (min limit (to high - from low)) [] (omega arith)

  module _ (is : IsTable s t) where
    each : ListsEach t (view s t x)
    each = each_listed s t x is (sorted_listed (index_at s x).kind sorted)

    once : IsOnce (view s t x)
    once = once_of_each t (view s t x) each

    -- where it begins in what the index shows
    abbrev place : Lower → Upper → Bool → ℕ
    place low high true = length (view s t x) - to high
    place low high false = from low

    begun_at : (low : Lower) (high : Upper) (reversed : Bool)
        → begun s t x low high reversed ≡ drop (place low high reversed) (turned reversed (view s t x))
    begun_at low high true = ap reverse (down_between high) ∙ sym (reverse_end (to high) (view s t x) (to_within s t x high))
    begun_at low high false = up_between low

    begun_first : (low : Lower) (high : Upper) (reversed : Bool)
        → slice_get (turned reversed (view s t x)) (place low high reversed) ≡ slice_get (begun s t x low high reversed) 0
    begun_first low high reversed =
        sym (head_drop (place low high reversed) (turned reversed (view s t x))) ∙ ap (λ ids. slice_get ids 0) (sym (begun_at low high reversed))

    -- the rows from that id on
    pub begun_rows : (low : Lower) (high : Upper) (reversed : Bool) (limit first : ℕ) → slice_get (begun s t x low high reversed) 0 ≡ Some first
        → rows_from s t x reversed first limit ≡ map (row t) (take limit (begun s t x low high reversed))
    begun_rows low high reversed limit first at =
        ap (λ ids. map (row t) (take limit ids))
        (from_at (turned reversed (view s t x)) (once_turned reversed (view s t x) once) (place low high reversed) first (begun_first low high reversed ∙ at)
        ∙ sym (begun_at low high reversed))

    -- that id is there
    pub begun_there : (low : Lower) (high : Upper) (reversed : Bool) (first : ℕ) → slice_get (begun s t x low high reversed) 0 ≡ Some first
        → IsTrue (has t first)
    begun_there low high reversed first at =
        there_at t (turned reversed (view s t x)) (each_turned reversed t (view s t x) each) (place low high reversed) first
        (begun_first low high reversed ∙ at)
