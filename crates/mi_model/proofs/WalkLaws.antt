-- A walk along what an index shows, step by step and whole.
-- Cited by `mi_multi`, `mi_plain` and `mi_query`.
use Rattle.std.proofs.Common.{◌≡◌, ℕ, ◌+◌, ◌-◌, ◌<◌, ◌≤◌, zero, suc, Bool, true, false, cond, ◌⊎◌, inl, inr, get_or, List, []}
use Rattle.std.proofs.Common.{◌∷◌, ◌++◌, map, length, take, drop, reverse, refl, ap, sym, ◌∙◌, subst, append_assoc, arith}
use Rattle.std.specs.Prelude.{slice_get, IsTrue, IfSome}
use Rattle.std.specs.Option.{unwrap_or}
use Rattle.std.specs.declared.option.Option.{Option}
use Rattle.std.specs.declared.option.Option.TheVariants.{None, Some}
use Rattle.std.proofs.lemmas.Bool.{cases_lt}
use Rattle.std.proofs.lemmas.List.{length-drop, length-reverse, take_all, take_more, take-append-drop, get_or-drop, map-append, reverse-append}
use Rattle.std.proofs.Math.Seq.{drop-append_seam}
use Rattle.std.proofs.lemmas.Option.{slice_get-get_or, slice_get_within, get_or_from_slice_get}
use Rattle.mi_value.specs.declared.value.Value.{Value}
use Rattle.mi_catalog.specs.Shape.{Shape, index_at}
use Rattle.mi_catalog.specs.Kinds.{shows_one_list}
use Rattle.mi_model.specs.Table.{Table, IsTable, ListsEach, has, get, row, times}
use Rattle.mi_model.specs.View.{view}
use Rattle.mi_model.specs.LookUp.{rank_in, after_in, before_in}
use Rattle.mi_model.specs.Walk.{turned, from_in}
use Rattle.mi_model.proofs.LookUpLaws.{rank_at, at_rank}
use Rattle.mi_model.proofs.PlaceLaws.{IsOnce, after_at, before_at, before_first, before_other, each_in_view, listed_within, there_at, once_of_each}

-- how often an id stands in two lists, and in a reversed one

times-append : (id : ℕ) (xs ys : List ℕ) → times id (xs ++ ys) ≡ times id xs + times id ys
times-append id [] ys = omega arith
times-append id (x ∷ xs) ys = let rest : times id (xs ++ ys) ≡ times id xs + times id ys = times-append id xs ys in omega arith

times-reverse : (id : ℕ) (xs : List ℕ) → times id (reverse xs) ≡ times id xs
times-reverse id [] = refl
times-reverse id (x ∷ xs) =
    let parts : times id (reverse (x ∷ xs)) ≡ times id (reverse xs ++ x ∷ []) = ap (times id) (reverse-append (x ∷ []) xs) in
    let sum : times id (reverse xs ++ x ∷ []) ≡ times id (reverse xs) + times id (x ∷ []) = times-append id (reverse xs) (x ∷ []) in
    let rest : times id (reverse xs) ≡ times id xs = times-reverse id xs in
    omega arith

times-turned : (reversed : Bool) (id : ℕ) (ids : List ℕ) → times id (turned reversed ids) ≡ times id ids
times-turned true id ids = times-reverse id ids
times-turned false id ids = refl

-- the first n ids in reverse end the reverse of all
pub reverse_end : (n : ℕ) (ids : List ℕ) → n ≤ length ids → drop (length ids - n) (reverse ids) ≡ reverse (take n ids)
reverse_end n ids le =
    let ends : length (reverse (drop n ids)) ≡ length ids - n = length-reverse (drop n ids) ∙ length-drop n ids in
    ap (λ k. drop k (reverse ids)) (sym ends)
    ∙ ap (drop (length (reverse (drop n ids)))) (ap reverse (sym (take-append-drop n ids)) ∙ reverse-append (take n ids) (drop n ids))
    ∙ drop-append_seam (reverse (drop n ids)) (reverse (take n ids))

pub once_turned : (reversed : Bool) (ids : List ℕ) → IsOnce ids → IsOnce (turned reversed ids)
once_turned reversed ids once id = subst (λ n. n ≤ 1) (sym (times-turned reversed id ids)) (once id)

pub each_turned : (reversed : Bool) (t : Table) (ids : List ℕ) → ListsEach t ids → ListsEach t (turned reversed ids)
each_turned reversed t ids each id = times-turned reversed id ids ∙ each id

-- an id that is there stands at its rank
pub at_rank_there : (t : Table) (ids : List ℕ) → ListsEach t ids → (e : ℕ) → has t e ≡ true → slice_get ids (rank_in ids e) ≡ Some e
at_rank_there t ids each e there =
    let one : times e ids ≡ 1 = each e ∙ ap (λ b. cond {A = ℕ} b 1 0) there in
    at_rank e ids (omega arith)

-- from the one at a place on
pub from_at : (ids : List ℕ) → IsOnce ids → (k e : ℕ) → slice_get ids k ≡ Some e → from_in ids e ≡ drop k ids
from_at ids once k e at = ap (λ n. drop n ids) (rank_at k e ids once at)

-- from one between others on
from_middle : (xs : List ℕ) (e : ℕ) (ys : List ℕ) → IsOnce (xs ++ e ∷ ys) → from_in (xs ++ e ∷ ys) e ≡ e ∷ ys
from_middle xs e ys once =
    let at : slice_get (xs ++ e ∷ ys) (length xs) ≡ Some e = middle xs in
    from_at (xs ++ e ∷ ys) once (length xs) e at ∙ drop-append_seam xs (e ∷ ys)
  where
    middle : (us : List ℕ) → slice_get (us ++ e ∷ ys) (length us) ≡ Some e
    middle [] = refl
    middle (u ∷ us) = middle us

-- what one shows from one of its nodes on, in either direction
pub turned_middle : (reversed : Bool) (xs : List ℕ) (e : ℕ) (ys : List ℕ) → IsOnce (xs ++ e ∷ ys)
    → from_in (turned reversed (xs ++ e ∷ ys)) e ≡ e ∷ cond reversed (reverse xs) ys
turned_middle true xs e ys once =
    let parts : reverse (xs ++ e ∷ ys) ≡ reverse ys ++ e ∷ reverse xs =
    reverse-append xs (e ∷ ys) ∙ ap (λ zs. zs ++ reverse xs) (reverse-append (e ∷ []) ys) ∙ append_assoc (reverse ys) (e ∷ []) (reverse xs) in
    ap (λ ids. from_in ids e) parts ∙ from_middle (reverse ys) e (reverse xs) (subst IsOnce parts (once_turned true (xs ++ e ∷ ys) once))
turned_middle false xs e ys once = from_middle xs e ys once

-- the id after another, or the one before it, is the next from the end that is meant
module _ (t : Table) (ids : List ℕ) (each : ListsEach t ids) where
  pub listed : (k : ℕ) → IfSome (slice_get ids k) (λ id. IsTrue (has t id))
  listed k =
      elim (slice_get ids k) as (λ o. slice_get ids k ≡ o → IfSome o (λ id. IsTrue (has t id))) [
        | None ↦ λ _. tt
        | Some e ↦ λ at. there_at t ids each k e at
      ] refl

  pub listed_before : (e : ℕ) → IfSome (before_in ids e) (λ id. IsTrue (has t id))
  listed_before e =
      elim (rank_in ids e) as (λ r. rank_in ids e ≡ r → IfSome (before_in ids e) (λ id. IsTrue (has t id))) [
        | zero ↦ λ is. subst (λ o. IfSome o (λ id. IsTrue (has t id))) (sym (before_first ids e is)) tt
        | suc n ↦ λ is. subst (λ o. IfSome o (λ id. IsTrue (has t id))) (sym (before_other ids e n is)) (listed n)
      ] refl

  pub next_forth : (reversed : Bool) (e : ℕ) → reversed ≡ false → (k : ℕ)
      → slice_get (turned reversed ids) k ≡ Some e → after_in ids e ≡ slice_get (turned reversed ids) (k + 1)
  next_forth true e forth k at = absurd (cc)
  next_forth false e forth k at = after_at ids (once_of_each t ids each) k e at

  pub next_back : (reversed : Bool) (e : ℕ) → reversed ≡ true → (k : ℕ)
      → slice_get (turned reversed ids) k ≡ Some e → before_in ids e ≡ slice_get (turned reversed ids) (k + 1)
  next_back true e back k at = before_at ids (once_of_each t ids each) k e at
  next_back false e back k at = absurd (cc)

-- a walk takes one row more

row_is : (t : Table) (e : ℕ) (v : List Value) → get t e ≡ Some v → row t e ≡ (e, v)
row_is t e v is = ap (λ (o : Option (List Value)). (e, unwrap_or o [])) is

pub walk_more : (t : Table) (ids : List ℕ) (at n e : ℕ) (v : List Value) → slice_get ids (at + n) ≡ Some e → get t e ≡ Some v
    → map (row t) (take (n + 1) (drop at ids)) ≡ map (row t) (take n (drop at ids)) ++ (e, v) ∷ []
walk_more t ids at n e v is got =
    let within : at + n < length ids = slice_get_within ids (at + n) e is in
    let rest : length (drop at ids) ≡ length ids - at = length-drop at ids in
    let inside : n < length (drop at ids) = omega arith in
    let here : get_or (drop at ids) n 0 ≡ e = get_or-drop at ids n 0 ∙ get_or_from_slice_get ids (at + n) e 0 is in
    ap (map (row t)) (take_more (drop at ids) n 0 inside)
    ∙ map-append (row t) (take n (drop at ids)) (get_or (drop at ids) n 0 ∷ [])
    ∙ ap (λ r. map (row t) (take n (drop at ids)) ++ r ∷ []) (ap (row t) here ∙ row_is t e v got)

-- where nothing stands the list has ended
none_past : (ids : List ℕ) (k : ℕ) → slice_get ids k ≡ None → length ids ≤ k
none_past ids k none =
    elim (cases_lt k (length ids)) [
      | inl within ↦ absurd (let some : slice_get ids k ≡ Some (get_or ids k 0) = slice_get-get_or ids k 0 within in cc)
      | inr past ↦ past
    ]

-- and ends at its limit, or where no more stand
pub walk_ends : (ids : List ℕ) (at n limit : ℕ) → n ≤ limit → (limit ≤ n) ⊎ (slice_get ids (at + n) ≡ None) → take n (drop at ids) ≡ take limit (drop at ids)
walk_ends ids at n limit le (inl full) = ap (λ k. take k (drop at ids)) (let e : n ≡ limit = omega arith in e)
walk_ends ids at n limit le (inr none) =
    let past : length ids ≤ at + n = none_past ids (at + n) none in
    let rest : length (drop at ids) ≡ length ids - at = length-drop at ids in
    take_all n (drop at ids) (omega arith) ∙ sym (take_all limit (drop at ids) (omega arith))

-- an index shows each record of its table
pub each_listed : (s : Shape) (t : Table) (x : ℕ) → IsTable s t → IsTrue (shows_one_list (index_at s x).kind) → ListsEach t (view s t x)
each_listed s t x is one = each_in_view s t x is (listed_within s x one)
