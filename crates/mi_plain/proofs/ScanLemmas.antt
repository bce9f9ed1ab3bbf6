-- Ids looked for one after another: by rank, and by key in a hashed index.
-- Cited by `PlainTable::next_of` and `PlainTable::nth`.
use Rattle.std.proofs.Common.{◌≡◌, ◌≢◌, ℕ, zero, suc, ◌+◌, ◌<◌, ◌≤◌, Bool, true, cond, inl, inr, Option, Some, None}
use Rattle.std.proofs.Common.{List, [], ◌∷◌, length, slice_get, get_or, drop, refl, ap, sym, ◌∙◌, subst, arith}
use Rattle.std.specs.Prelude.{◌==◌}
use Rattle.std.specs.List.{filter}
use Rattle.std.specs.Ordering.{is_eq}
use Rattle.std.specs.Cmp.{tied_itself}
use Rattle.std.proofs.lemmas.Bool.Decides.{eqb_tells}
use Rattle.mi_catalog.specs.declared.index.Index.{Index}
use Rattle.mi_catalog.specs.declared.index.IndexKind.{IndexKind}
use Rattle.mi_catalog.specs.declared.index.IndexKind.TheVariants.{Hashed}
use Rattle.mi_catalog.specs.Shape.{Shape, index_at}
use Rattle.mi_model.specs.Table.{Table, ListsEach, has, list_of, times}
use Rattle.mi_model.specs.View.{shown, view, compare_ids}
use Rattle.mi_model.specs.LookUp as look
use Rattle.mi_model.specs.LookUp.{rank_in, after_in}
use Rattle.mi_model.proofs.SortLaws.{both_ways}
use Rattle.mi_model.proofs.ViewLaws.{compare_ids_total}
use Rattle.mi_model.proofs.LookUpLaws.{rank_first, rank_next, at_rank, rank_at, rank_within, stands, times-sorted}
use Rattle.mi_plain.specs.Boundary.{order_in}
use Rattle.mi_plain.proofs.BoundaryLemmas.{view_is, once, stands_once}
use Rattle.mi_plain.proofs.PassLemmas.{slice_get_or, there_is}

times_shown : (s : Shape) (t : Table) (x e : ℕ) → times e (view s t x) ≡ times e (list_of t x)
times_shown s t x e = ap (times e) (view_is s t x) ∙ times-sorted e (order_in (index_at s x) t) (list_of t x)

-- an id of the list is shown at its rank
pub nth_found : (s : Shape) (t : Table) (x : ℕ) (ids : List ℕ) (k n : ℕ) → ids ≡ list_of t x
    → ListsEach t (list_of t x) → k < length ids → look.rank s t x (get_or ids k 0) ≡ n
    → Some (get_or ids k 0) ≡ look.nth s t x n
nth_found s t x ids k n same each within is =
    let e : ℕ = get_or ids k 0 in
    let some : 0 < times e (view s t x) = subst (λ m. 0 < m) (sym (times_shown s t x e))
    (stands_once t (list_of t x) e each (there_is t (list_of t x) ids k 0 same each within)) in
    sym (at_rank e (view s t x) some) ∙ ap (slice_get (view s t x)) is

none_at : (s : Shape) (t : Table) (x n : ℕ) (found : Option ℕ) → ListsEach t (list_of t x)
    → ((k : ℕ) → k < length (list_of t x) → look.rank s t x (get_or (list_of t x) k 0) ≢ n)
    → slice_get (view s t x) n ≡ found → None ≡ found
none_at s t x n None each others is = refl
none_at s t x n (Some e) each others is =
    let same : times e (view s t x) ≡ times e (list_of t x) = times_shown s t x e in
    let some : 0 < times e (list_of t x) = subst (λ m. 0 < m) same (stands e n (view s t x) is) in
    let k : ℕ = rank_in (list_of t x) e in
    let within : k < length (list_of t x) = rank_within e (list_of t x) some in
    let at : Some (get_or (list_of t x) k 0) ≡ Some e = sym (slice_get_or (list_of t x) k 0 within) ∙ at_rank e (list_of t x) some in
    let id : get_or (list_of t x) k 0 ≡ e = cc in
    absurd (others k within (ap (look.rank s t x) id
    ∙ rank_at n e (view s t x) (λ a. subst (λ m. m ≤ 1) (sym (times_shown s t x a)) (once t (list_of t x) each a)) is))

-- where no id has a rank nothing is shown there
pub nth_none : (s : Shape) (t : Table) (x : ℕ) (ids : List ℕ) (i n : ℕ) → ids ≡ list_of t x → ListsEach t (list_of t x) → length ids ≤ i
    → ((k : ℕ) → k < i → look.rank s t x (get_or ids k 0) ≢ n) → None ≡ look.nth s t x n
nth_none s t x ids i n same each past others =
    none_at s t x n (slice_get (view s t x) n) each
    (subst (λ (xs : List ℕ). (k : ℕ) → k < length xs → look.rank s t x (get_or xs k 0) ≢ n) same (λ k l. others k (omega (arith, l, past)))) refl

-- a hashed index shows its list
hashed_view : (s : Shape) (t : Table) (x : ℕ) → (index_at s x).kind ≡ Hashed → view s t x ≡ list_of t x
hashed_view s t x is = ap (λ (kind : IndexKind). shown kind (compare_ids (index_at s x) t) (list_of t x)) is

-- the first behind an id that passes a test, where the id passes too
behind_itself : (q : ℕ → Bool) (e : ℕ) (ids : List ℕ) → q e ≡ true → 0 < times e ids
    → slice_get (filter q (drop (rank_in ids e + 1) ids)) 0 ≡ after_in (filter q ids) e
behind_itself q e [] passes some = absurd (omega arith)
behind_itself q e (a ∷ ids) passes some =
    elim (eqb_tells a e) [
      | inl is ↦
          let yes_a : q a ≡ true = ap q is.1 ∙ passes in
          let one : rank_in (a ∷ ids) e + 1 ≡ suc zero = let r : rank_in (a ∷ ids) e ≡ 0 = rank_first e a ids is.0 in omega (arith, r) in
          let also : rank_in (a ∷ filter q ids) e + 1 ≡ suc zero =
          let r : rank_in (a ∷ filter q ids) e ≡ 0 = rank_first e a (filter q ids) is.0 in omega (arith, r) in
          ap (λ n. slice_get (filter q (drop n (a ∷ ids))) 0) one
          ∙ sym (ap (λ b. after_in (cond b (a ∷ filter q ids) (filter q ids)) e) yes_a ∙ ap (slice_get (a ∷ filter q ids)) also)
      | inr isnt ↦
          let there : 0 < times e ids = (let z : cond {A = ℕ} (a == e) 1 0 ≡ 0 = ap (λ b. cond {A = ℕ} b 1 0) isnt.0 in omega (arith, z, some)) in
          let more : rank_in (a ∷ ids) e + 1 ≡ suc (rank_in ids e + 1) =
          let r : rank_in (a ∷ ids) e ≡ 1 + rank_in ids e = rank_next e a ids isnt.0 in omega (arith, r) in
          let further : rank_in (a ∷ filter q ids) e + 1 ≡ suc (rank_in (filter q ids) e + 1) =
          let r : rank_in (a ∷ filter q ids) e ≡ 1 + rank_in (filter q ids) e = rank_next e a (filter q ids) isnt.0 in omega (arith, r) in
          ap (λ n. slice_get (filter q (drop n (a ∷ ids))) 0) more
          ∙ behind_itself q e ids passes there
          ∙ both_ways (q a)
          (λ also. sym (ap (λ b. after_in (cond b (a ∷ filter q ids) (filter q ids)) e) also ∙ ap (slice_get (a ∷ filter q ids)) further))
          (λ no. sym (ap (λ b. after_in (cond b (a ∷ filter q ids) (filter q ids)) e) no))
    ]

pub next_of_rest : (s : Shape) (t : Table) (x e : ℕ) (i : Index) (ids : List ℕ) (at : ℕ)
    → (index_at s x).kind ≡ Hashed → i ≡ index_at s x → ids ≡ list_of t x → at ≡ rank_in (list_of t x) e
    → ListsEach t (list_of t x) → has t e ≡ true → slice_get (filter (λ id. is_eq (compare_ids i t e id)) (drop (at + 1) ids)) 0 ≡ look.next_with_key s t x e
next_of_rest s t x e i ids at hashed same are place each there =
    ap (λ (j : Index). slice_get (filter (λ id. is_eq (compare_ids j t e id)) (drop (at + 1) ids)) 0) same
    ∙ ap (λ n. slice_get (filter (λ id. is_eq (compare_ids (index_at s x) t e id)) (drop (n + 1) ids)) 0) place
    ∙ ap (λ xs. slice_get (filter (λ id. is_eq (compare_ids (index_at s x) t e id)) (drop (rank_in (list_of t x) e + 1) xs)) 0) are
    ∙ behind_itself (λ id. is_eq (compare_ids (index_at s x) t e id)) e (list_of t x)
    (ap is_eq (tied_itself (compare_ids_total (index_at s x) t) e)) (stands_once t (list_of t x) e each there)
    ∙ ap (λ xs. after_in (filter (λ id. is_eq (compare_ids (index_at s x) t e id)) xs) e) (sym (hashed_view s t x hashed))

-- the place of an id that is there
pub place_within : (t : Table) (ids others : List ℕ) (e at : ℕ) → others ≡ ids → ListsEach t ids → has t e ≡ true → at ≡ rank_in ids e → at < length others
place_within t ids others e at same each there place =
    let l : rank_in ids e < length ids = rank_within e ids (stands_once t ids e each there) in
    let n : length others ≡ length ids = ap length same in omega (arith, l, n, place)
