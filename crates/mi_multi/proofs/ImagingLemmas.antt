-- Copies of the rows, and the list of each index, are those of the table.
-- Cited by `MultiIndex::list`, `MultiIndex::list_by_stamps`, `MultiIndex::list_by_walk`, `MultiIndex::row_copies` and 2 more.
use Rattle.std.proofs.Common.{◌≡◌, ℕ, ◌+◌, ◌<◌, ◌≤◌, zero, suc, Bool, true, false, cond, ◌&&◌, inl, inr, Bor, List, [], ◌∷◌, ◌++◌}
use Rattle.std.proofs.Common.{map, length, take, drop, not, get_or, slice_get, refl, ap, sym, ◌∙◌, subst, arith}
use Rattle.std.specs.Prelude.{◌==◌}
use Rattle.std.specs.List.{AllByRecursion, filter, position_or_len}
use Rattle.std.specs.List.Sorted.{IsPermutation, IsSorted, IsNonDecreasingBy}
use Rattle.std.specs.Map.{lookup}
use Rattle.std.specs.Option.{unwrap_or}
use Rattle.std.specs.Ordering.{nat_cmp, on, ordering_then, is_lt}
use Rattle.std.specs.Cmp.{on_total}
use Rattle.std.specs.FinMap.{get}
use Rattle.std.proofs.lemmas.Cmp.{nat_cmp_total, ranked}
use Rattle.std.proofs.lemmas.Bool.{false≢true}
use Rattle.std.proofs.lemmas.Bool.Decides.{eqb_tells, nat_tests}
use Rattle.std.proofs.lemmas.List.Elements.{All-from_recursion, recursion_from_All}
use Rattle.std.proofs.lemmas.List.Sorted.{All-permutation, IsPermutation-map, IsPermutation-sym, IsNonDecreasingBy-from_all_adjacent}
use Rattle.std.proofs.Math.Seq.{take-length}
use Rattle.std.specs.declared.cmp.Ordering.{Ordering}
use Rattle.std.specs.declared.cmp.Ordering.TheVariants.{Less, Equal, Greater}
use Rattle.std.specs.declared.option.Option.TheVariants.{Some}
use Rattle.mi_value.specs.declared.value.Value.{Value}
use Rattle.mi_value.specs.declared.compare.KeyPart.{KeyPart}
use Rattle.mi_value.specs.declared.bound.Lower.TheVariants as lower
use Rattle.mi_value.specs.declared.bound.Upper.TheVariants as upper
use Rattle.mi_catalog.specs.declared.index.Index.{Index}
use Rattle.mi_catalog.specs.declared.index.IndexKind.{IndexKind}
use Rattle.mi_catalog.specs.declared.index.IndexKind.TheVariants as kinds
use Rattle.mi_catalog.specs.Kinds.{is_ranked, is_sequenced}
use Rattle.mi_catalog.specs.Key.{Row}
use Rattle.mi_catalog.specs.Rules.{is_schema, are_indexes}
use Rattle.mi_catalog.specs.Shape.{Shape, index_at}
use Rattle.mi_model.specs.Table.{Table, ListsEach, has, list_of, row, size, times}
use Rattle.mi_model.specs.Page.{range}
use Rattle.mi_model.specs.View.{view, shown, compare_ids}
use Rattle.mi_model.specs.Walk.{from_in, rows_from}
use Rattle.mi_model.specs.LookUp as look
use Rattle.mi_model.proofs.PlaceLaws.{each_in_view, length-view}
use Rattle.mi_model.proofs.StampLaws.{Rises, rises_once, times_first}
use Rattle.mi_model.proofs.TableLaws.{all_get}
use Rattle.mi_model.proofs.ViewLaws.{Lacks}
use Rattle.mi_node.specs.Pool.{Pooled}
use Rattle.mi_node.specs.Refs.{Ref}
use Rattle.mi_node.specs.declared.old_place.OldPlace.{OldPlace as Place}
use Rattle.mi_chain.specs.Keying.{stamp_at}
use Rattle.mi_order.specs.declared.stored.Stored.{Stored}
use Rattle.mi_index.specs.declared.structure.Structure.{Structure}
use Rattle.mi_index.specs.declared.structure.Structure.TheVariants.{Sorted, Hashed, Sequenced}
use Rattle.mi_index.specs.Looks.{IsPlaceOf, HasItsStamp}
use Rattle.mi_index.specs.Standing.{slot_in, Stands}
use Rattle.mi_container.specs.Asked.{IsSequenced}
use Rattle.mi_container.specs.Data.{Node, Order, Data, IsData, Climbs, has_stamps, order_at, node_of, stamp_of, ids_of, ids_by_stamp, listed, plain_row, as_table}
use Rattle.mi_container.specs.Data.Order.{ById, ByKey, ByHash, Listed}
use Rattle.mi_container.specs.Fits.{IsThere}
use Rattle.mi_container.proofs.PairLemmas.{is_itself, is_other}
use Rattle.mi_container.proofs.InvariantLemmas.{rows_climb, each_there, each_once, stamp_there}
use Rattle.mi_container.proofs.SequenceLemmas.{Once}
use Rattle.mi_container.proofs.RestoreLemmas.{list_is, list_has_ids, kinds_long}
use Rattle.mi_container.proofs.RestampLemmas.{long_lists}
use Rattle.mi_container.proofs.ViewLemmas.{stamps_rise_in, ids_are_shown}
use Rattle.mi_multi.specs.Physical.{order_of, plan}
use Rattle.mi_multi.specs.Multi.{own_list, own_lists, id_at, IsFor}
use Rattle.mi_multi.specs.Seen.{Seen, seen_of, AreMulti}
use Rattle.mi_multi.specs.declared.multi.MultiIndex.TheInside.{Inside}
use Rattle.mi_ids.specs.IdMap.{live_node}
use Rattle.mi_multi.proofs.AnswerLemmas.{live_is}
use Rattle.mi_multi.proofs.EveryIndexLemmas.{has_plan}
use Rattle.mi_multi.proofs.IndexNumberLemmas.{Numbered, numbered}
use Rattle.mi_multi.proofs.LiveNodeLemmas.{id_of}
use Rattle.mi_multi.proofs.OldPlaceLemmas as old
use Rattle.mi_multi.proofs.RestoringLemmas.{order_kept}
use Rattle.mi_multi.proofs.StampLemmas.{stamp_row}

-- The index of the ids

right : (a b : Bool) → (a && b) ≡ true → b ≡ true
right true b h = h
right false b h = absurd (cc)

left : (a b : Bool) → (a && b) ≡ true → a ≡ true
left true b h = refl
left false b h = absurd (cc)

no_parts : (k : IndexKind) (ps : List KeyPart) (l : List ℕ) → is_ranked k ≡ true → (length ps == 0) ≡ true → order_of k ps l ≡ ById
no_parts kinds.Ordered ps l r z = absurd (false≢true r)
no_parts kinds.Hashed ps l r z = absurd (false≢true r)
no_parts kinds.Sequenced ps l r z = absurd (false≢true r)
no_parts kinds.Ranked [] l r z = refl
no_parts kinds.Ranked (p ∷ ps) l r z = elim (eqb_tells (length (p ∷ ps)) 0) [
  | inl same ↦ absurd (let s : suc (length ps) ≡ 0 = same.1 in omega (arith, s))
  | inr other ↦ absurd (false≢true (sym other.0 ∙ z))
]

first_order : (columns : ℕ) (is : List Index) (none : Index) (l : List ℕ) → are_indexes columns is ≡ true
    → order_of (get_or is 0 none).kind (get_or is 0 none).parts l ≡ ById
first_order columns [] none l h = absurd (cc)
first_order columns (i ∷ is) none l h =
    let id = left _ _ (left _ _ (left _ _ h)) in
    no_parts i.kind i.parts l (right _ _ (left _ _ (left _ _ id))) (right _ _ id)

first_few : (columns : ℕ) (is : List Index) → are_indexes columns is ≡ true → 0 < length is
first_few columns [] h = absurd (cc)
first_few columns (i ∷ is) h = omega arith

-- Rows

abbrev row_among : (rows : List Row) → ℕ → Row
row_among rows e = (e, unwrap_or (lookup (λ k. k == e) rows) [])

rows_beside : (r : Row) (rows others : List Row) → AllByRecursion (λ q. r.0 < q.0) others
    → map (λ q. row_among (r ∷ rows) q.0) others ≡ map (λ q. row_among rows q.0) others
rows_beside r rows [] all = refl
rows_beside r rows (q ∷ others) all =
    let l : r.0 < q.0 = all.0 in
    let one : row_among (r ∷ rows) q.0 ≡ row_among rows q.0 =
    ap (λ b. (q.0, unwrap_or (cond b (Some r.1) (lookup (λ k. k == q.0) rows)) [])) (is_other r.0 q.0 (λ same. absurd (omega (arith, l, same)))) in
    (λ j. one j ∷ rows_beside r rows others all.1 j)

each_row : (next : ℕ) (rows : List (ℕ × Node)) → Climbs next rows → map (λ q. row_among (map plain_row rows) q.0) (map plain_row rows) ≡ map plain_row rows
each_row next [] up = refl
each_row next (r ∷ rows) up =
    let p = plain_row r in let ps = map plain_row rows in
    let one : row_among (p ∷ ps) p.0 ≡ p = ap (λ b. (p.0, unwrap_or (cond b (Some p.1) (lookup (λ k. k == p.0) ps)) [])) (is_itself p.0) in
    let rest : map (λ q. row_among (p ∷ ps) q.0) ps ≡ ps = rows_beside p ps ps (plain_above rows up.1) ∙ each_row next rows up.2 in
    (λ j. one j ∷ rest j)
  where
    plain_above : (others : List (ℕ × Node)) → AllByRecursion (λ (q : ℕ × Node). r.0 < q.0) others → AllByRecursion (λ (q : Row). r.0 < q.0) (map plain_row others)
    plain_above [] all = tt
    plain_above (q ∷ others) all = (all.0, plain_above others all.1)

map_ids : (f : ℕ → Row) (rows : List (ℕ × Node)) → map f (ids_of rows) ≡ map (λ q. f q.0) (map plain_row rows)
map_ids f [] = refl
map_ids f (r ∷ rows) = ap (λ q. f r.0 ∷ q) (map_ids f rows)

all_pass : (ids : List ℕ) → filter (λ _. true && true) ids ≡ ids
all_pass [] = refl
all_pass (a ∷ ids) = ap (λ q. a ∷ q) (all_pass ids)

whole_view : (s : Shape) (d : Data) → IsData s d → (x : ℕ) → x < length s.indexes → take (size (as_table d)) (view s (as_table d) x) ≡ view s (as_table d) x
whole_view s d is x few =
    let t = as_table d in ap (λ n. take n (view s t x)) (sym (length-view s t x is.table few)) ∙ take-length (view s t x)

-- the rows between no bounds are all
all_rows : (s : Shape) (d : Data) → IsData s d → 0 < length s.indexes → order_at d.orders 0 ≡ ById
    → map (row (as_table d)) (range s (as_table d) 0 lower.All upper.All false (size (as_table d))).ids ≡ (as_table d).rows
all_rows s d is few by =
    let t = as_table d in
    let l = kinds_long s.indexes d.orders is.kinds in
    ap (map (row t)) (ap (take (size t)) (all_pass (view s t 0)) ∙ whole_view s d is 0 few ∙ sym (ids_are_shown s d 0 is (omega (arith, few, l)) by))
    ∙ map_ids (row t) d.rows ∙ each_row d.next d.rows (rows_climb s d is)

pub all_rows_seen : (i : Inside) (is : AreMulti i) {w : Seen} (seen : seen_of i ≡ w) → is_schema i.schema ≡ true
    → map (row (as_table w.plain)) (range w.shape (as_table w.plain) 0 lower.All upper.All false (size (as_table w.plain))).ids ≡ (as_table w.plain).rows
all_rows_seen i is {w} seen rules =
    let h = right _ _ (left _ _ rules) in
    let few = first_few (length i.schema.columns) i.schema.indexes h in
    let o = order_kept i (seen_of i) refl 0 few in
    subst (λ (u : Seen). map (row (as_table u.plain)) (range u.shape (as_table u.plain) 0 lower.All upper.All false (size (as_table u.plain))).ids ≡ (as_table u.plain).rows) seen
    (all_rows i.schema (seen_of i).plain is.is_data few (o.1 ∙ first_order (length i.schema.columns) i.schema.indexes _ o.0 h))

-- Stamps

pub there_at : (rows : List (ℕ × Node)) (k none : ℕ) → k < length (ids_of rows) → IsThere rows (get_or (ids_of rows) k none)
there_at [] k none l = absurd (omega (arith, l))
there_at (r ∷ rows) zero none l = (r.1, ap (λ b. cond b (Some r.1) (node_of rows r.0)) (is_itself r.0))
there_at (r ∷ rows) (suc k) none l =
    let e = get_or (ids_of rows) k none in
    elim (eqb_tells r.0 e) [
      | inl same ↦ (r.1, ap (λ b. cond b (Some r.1) (node_of rows e)) same.0)
      | inr other ↦ (let h = there_at rows k none (omega (arith, l)) in (h.0, ap (λ b. cond b (Some r.1) (node_of rows e)) other.0 ∙ h.1))
    ]

no_stamp : (k : IndexKind) (ps : List KeyPart) (l : List ℕ) → is_sequenced k ≡ true → has_stamps (order_of k ps l) ≡ true → ⊥
no_stamp kinds.Ordered ps l q h = false≢true q
no_stamp kinds.Ranked ps l q h = false≢true q
no_stamp kinds.Hashed ps l q h = false≢true q
no_stamp kinds.Sequenced ps l q h = false≢true h

stamp_at_slot : (i : Index) (m : Pooled Stored) (y : Structure) (r : Ref) (k a : ℕ) (ps : List KeyPart) (l : List ℕ) → IsFor i y → slot_in y ≡ k
    → has_stamps (order_of i.kind ps l) ≡ true → HasItsStamp y m r a → a ≡ stamp_at m k r
stamp_at_slot i m (Sorted t) r k a ps l f slot has_ its = its ∙ ap (λ z. stamp_at m z r) slot
stamp_at_slot i m (Hashed c) r k a ps l f slot has_ its = its ∙ ap (λ z. stamp_at m z r) slot
stamp_at_slot i m (Sequenced c) r k a ps l f slot has_ its = absurd (no_stamp i.kind ps l f has_)

-- the stamp of the place of a row's node is that of the row
pub stamp_seen : (i : Inside) (is : AreMulti i) {w : Seen} (seen : seen_of i ≡ w) (k e : ℕ) (r : Ref) → live_node i.ids.entries e ≡ Some r
    → has_stamps (order_at w.plain.orders k) ≡ true → (y : Structure) → slice_get i.nodes.structures.items k ≡ Some y → (p : Place)
    → ((xs ys : List Ref) → Stands y i.nodes.pool (xs ++ r ∷ ys) → IsPlaceOf y i.nodes.pool r p xs ys) → p.stamp ≡ stamp_of w.plain.rows k e
stamp_seen i is {w} seen k e r live has_ y at p given =
    let s = i.schema in let m = i.nodes.pool in let items = i.nodes.structures.items in let es = i.ids.entries in
    let here : has_stamps (order_at (seen_of i).plain.orders k) ≡ true = subst (λ (u : Seen). has_stamps (order_at u.plain.orders k) ≡ true) (sym seen) has_ in
    let n : Numbered s es m items k y = numbered s es m items i.next i.arrivals is k y at in
    let there = live_is es e r live in
    let h = old.has_it s es m items i.next i.arrivals is e r there k y n in
    let its = given h.xs h.ys (old.stands_with s es m items i.next i.arrivals is e r there k y n) in
    let id : id_at m r ≡ e = id_of es m e (record { node = r; live = true }) (is.held e (record { node = r; live = true }) there) in
    stamp_at_slot (index_at s k) m y r k p.stamp (index_at s k).parts (own_list m y) n.stood.for_ n.stood.slot (ap has_stamps (sym n.ordered) ∙ here) its.stamp
    ∙ sym (ap (stamp_of (seen_of i).plain.rows k) (sym id)
    ∙ stamp_row es m (plan s.indexes) k r (ap (get es) id ∙ there) n.few_plan (sym (has_plan s.indexes (own_lists m items) k) ∙ here))
    ∙ ap (λ (u : Seen). stamp_of u.plain.rows k e) seen

-- The list by stamps

less_is : (a b : ℕ) → a < b → nat_cmp a b ≡ Less
less_is a b l = grind (arith, nat_tests)

one_stamped : (o : Order) (x : ℕ) (rows : List (ℕ × Node)) → has_stamps o ≡ true → listed x rows o ≡ ids_by_stamp x rows
one_stamped ById x rows has_ = absurd (false≢true has_)
one_stamped (ByKey ps) x rows has_ = refl
one_stamped (ByHash ps) x rows has_ = refl
one_stamped (Listed ids) x rows has_ = absurd (false≢true has_)

module _ (s : Shape) (d : Data) (is : IsData s d) (x : ℕ) (few : x < length d.orders) (has_ : has_stamps (order_at d.orders x) ≡ true) where
  abbrev t : Table
  t = as_table d

  abbrev stamp : ℕ → ℕ
  stamp = stamp_of d.rows x

  differ : (a b : ℕ) → IsThere d.rows a → IsThere d.rows b → stamp a ≡ stamp b → a ≡ b
  differ a b p q same = is.apart a b p.0 q.0 x p.1 q.1 has_ (sym (stamp_there d.rows x a p) ∙ same ∙ stamp_there d.rows x b q)

  all_less : (a : ℕ) (ids : List ℕ) → IsThere d.rows a → AllByRecursion (IsThere d.rows) ids → Lacks a ids
      → AllByRecursion (λ b. stamp a ≤ stamp b) ids → AllByRecursion (λ b. on stamp nat_cmp a b ≡ Less) ids
  all_less a [] p all lacks up = tt
  all_less a (b ∷ ids) p all lacks up = (
    less_is (stamp a) (stamp b)
        (elim (eqb_tells (stamp a) (stamp b)) [
          | inl same ↦ absurd (lacks.0 (sym (differ a b p all.0 same.1)))
          | inr other ↦ (let l = up.0 in let ne = other.1 in omega (arith, l, ne))
        ]),
    all_less a ids p all.1 lacks.1 up.1,
  )

  -- each stamp is at most those behind it
  abbrev UpTo : List ℕ → Type 0
  UpTo [] = Unit {0}
  UpTo (a ∷ ids) = AllByRecursion (λ b. stamp a ≤ stamp b) ids × UpTo ids

  rises : (ids : List ℕ) → AllByRecursion (IsThere d.rows) ids → Once ids → UpTo ids → Rises (on stamp nat_cmp) ids
  rises [] all once up = tt
  rises (a ∷ ids) all once up = (all_less a ids all.0 all.1 once.0 up.0, rises ids all.1 once.1 up.1)

  list_at : list_of t x ≡ ids_by_stamp x d.rows
  list_at = list_is d x few ∙ one_stamped (order_at d.orders x) x d.rows has_

  each_at : ListsEach t (ids_by_stamp x d.rows)
  each_at = subst (ListsEach t) list_at (all_get (ListsEach t) t.lists x is.table.complete (let f = long_lists 0 d.rows d.orders in omega (arith, f, few)))

  -- ids whose stamps rise are the list
  list_of_stamps : (ids : List ℕ) → ListsEach t ids → UpTo ids → ids ≡ list_of t x
  list_of_stamps ids each up =
      rises_once (on stamp nat_cmp) (on_total stamp nat_cmp_total) ids (ids_by_stamp x d.rows)
      (rises ids (each_there d ids each) (each_once t ids each) up) (stamps_rise_in s d is x few has_) (λ id. each id ∙ sym (each_at id))
      ∙ sym list_at

  abbrev pair : ℕ → ℕ × ℕ
  pair e = (stamp e, e)

  seconds_are : (ids : List ℕ) → map (λ (p : ℕ × ℕ). p.1) (map pair ids) ≡ ids
  seconds_are [] = refl
  seconds_are (e ∷ ids) = ap (λ q. e ∷ q) (seconds_are ids)

  abbrev IsPair : ℕ × ℕ → Type 0
  IsPair p = p.0 ≡ stamp p.1

  up_to : (ps : List (ℕ × ℕ)) → AllByRecursion IsPair ps → IsNonDecreasingBy (λ (p : ℕ × ℕ). p.0) ps → UpTo (map (λ (p : ℕ × ℕ). p.1) ps)
  up_to [] all up = tt
  up_to (p ∷ ps) all up = (above ps all.1 (λ k l. up 0 (suc k) p (omega arith) (omega (arith, l))), up_to ps all.1 (λ i j e l m. up (suc i) (suc j) e (omega (arith, l)) (omega (arith, m))))
    where
      above : (qs : List (ℕ × ℕ)) → AllByRecursion IsPair qs → ((k : ℕ) → k < length qs → p.0 ≤ (get_or qs k p).0)
          → AllByRecursion (λ b. stamp p.1 ≤ stamp b) (map (λ (q : ℕ × ℕ). q.1) qs)
      above [] every f = tt
      above (q ∷ qs) every f = (
        (let h : p.0 ≤ q.0 = f 0 (omega arith) in let a : p.0 ≡ stamp p.1 = all.0 in let b : q.0 ≡ stamp q.1 = every.0 in omega (arith, h, a, b)),
        above qs every.1 (λ k l. f (suc k) (omega (arith, l))),
      )

  pairs_in : (ids : List ℕ) → AllByRecursion IsPair (map pair ids)
  pairs_in [] = tt
  pairs_in (e ∷ ids) = (refl, pairs_in ids)

  all_pairs : (ps : List (ℕ × ℕ)) → IsPermutation (map pair (ids_of d.rows)) ps → AllByRecursion IsPair ps
  all_pairs ps moved = recursion_from_All IsPair ps (All-permutation IsPair (map pair (ids_of d.rows)) ps moved (All-from_recursion IsPair (map pair (ids_of d.rows)) (pairs_in (ids_of d.rows))))

  -- so are those of the sorted pairs
  pub list_of_pairs : (ps : List (ℕ × ℕ)) → IsPermutation (map pair (ids_of d.rows)) ps
      → IsSorted (λ p q. ordering_then (nat_cmp p.0 q.0) (nat_cmp p.1 q.1)) ps → map (λ (p : ℕ × ℕ). p.1) ps ≡ list_of t x
  list_of_pairs ps moved up =
      let back : IsPermutation (map (λ (p : ℕ × ℕ). p.1) ps) (ids_of d.rows) =
      subst (IsPermutation (map (λ (p : ℕ × ℕ). p.1) ps)) (seconds_are (ids_of d.rows))
      (IsPermutation-map (λ (p : ℕ × ℕ). p.1) ps (map pair (ids_of d.rows)) (IsPermutation-sym (map pair (ids_of d.rows)) ps moved)) in
      list_of_stamps (map (λ (p : ℕ × ℕ). p.1) ps)
      (list_has_ids s d is (ids_of d.rows) (map (λ (p : ℕ × ℕ). p.1) ps) (ids_of d.rows) refl back refl)
      (up_to ps (all_pairs ps moved) (IsNonDecreasingBy-from_all_adjacent (λ (p : ℕ × ℕ). p.0) ps
      (λ k none l. first_upto (get_or ps k none) (get_or ps (k + 1) none) (up k none (omega arith) l))))
    where
      first_upto : (p q : ℕ × ℕ) → is_lt (ordering_then (nat_cmp q.0 p.0) (nat_cmp q.1 p.1)) ≡ false → p.0 ≤ q.0
      first_upto p q h =
          elim (nat_cmp q.0 p.0) as (λ o. nat_cmp q.0 p.0 ≡ o → p.0 ≤ q.0) [
            | Less ↦ λ e. absurd (false≢true (sym h ∙ ap (λ o. is_lt (ordering_then o (nat_cmp q.1 p.1))) e))
            | Equal ↦ λ e. (let same : q.0 ≡ p.0 = ranked q.0 p.0 Equal (sym e) in omega (arith, same))
            | Greater ↦ λ e. (let l : p.0 < q.0 = ranked q.0 p.0 Greater (sym e) in omega (arith, l))
          ] refl

-- A walk of a sequenced index

view_listed : (k : IndexKind) (order : ℕ → ℕ → Ordering) (ids : List ℕ) → is_sequenced k ≡ true → shown k order ids ≡ ids
view_listed kinds.Ordered order ids h = absurd (false≢true h)
view_listed kinds.Ranked order ids h = absurd (false≢true h)
view_listed kinds.Hashed order ids h = refl
view_listed kinds.Sequenced order ids h = refl

sequenced_view : (s : Shape) (t : Table) (x : ℕ) → IsSequenced s x → view s t x ≡ list_of t x
sequenced_view s t x h = view_listed (index_at s x).kind (compare_ids (index_at s x) t) (list_of t x) (ap is_sequenced h)

from_first : (ids : List ℕ) (e : ℕ) → Some e ≡ slice_get ids 0 → from_in ids e ≡ ids
from_first [] e h = absurd (cc)
from_first (a ∷ ids) e h =
    let same : a ≡ e = some_of (sym h) in
    ap (λ b. drop (cond (not b) (1 + position_or_len (λ q. q == e) ids) 0) (a ∷ ids)) (ap (λ q. a == q) (sym same) ∙ is_itself a)
  where
    some_of : {a e : ℕ} → Some a ≡ Some e → a ≡ e
    some_of h = cc

first_there : (s : Shape) (d : Data) → IsData s d → (x : ℕ) → x < length s.indexes → (ids : List ℕ) (e : ℕ) → ListsEach (as_table d) ids
    → Some e ≡ slice_get ids 0 → has (as_table d) e ≡ true
first_there s d is x few [] e each h = absurd (cc)
first_there s d is x few (a ∷ ids) e each h =
    let same : a ≡ e = cc in
    let some = times_first a ids in
    elim (has (as_table d) e) as (λ b. has (as_table d) e ≡ b → b ≡ true) [
      | true ↦ λ is. refl
      | false ↦ λ isnt. absurd (let n : times a (a ∷ ids) ≡ 0 = each a ∙ ap (λ b. cond {A = ℕ} b 1 0) (ap (has (as_table d)) same ∙ isnt) in omega (arith, n, some))
    ] refl

ids_in : (t : Table) (ids : List ℕ) → map (λ (r : Row). r.0) (map (row t) ids) ≡ ids
ids_in t [] = refl
ids_in t (e ∷ ids) = ap (λ q. e ∷ q) (ids_in t ids)

lent_are : (lent : List (ℕ × Bor (List Value))) → map (λ (r : ℕ × Bor (List Value)). r.0) lent ≡ map (λ (r : Row). r.0) (map (λ (r : ℕ × Bor (List Value)). (r.0, r.1.now)) lent)
lent_are [] = refl
lent_are (r ∷ lent) = ap (λ q. r.0 ∷ q) (lent_are lent)

-- a walk from the first is the list
pub walked_list : (s : Shape) (d : Data) → IsData s d → (x : ℕ) → x < length s.indexes → IsSequenced s x → (e : ℕ) → Some e ≡ look.first s (as_table d) x
    → (lent : List (ℕ × Bor (List Value))) → map (λ (r : ℕ × Bor (List Value)). (r.0, r.1.now)) lent ≡ rows_from s (as_table d) x false e (size (as_table d))
    → map (λ (r : ℕ × Bor (List Value)). r.0) lent ≡ list_of (as_table d) x
walked_list s d is x few sequenced e first lent rows =
    let t = as_table d in
    lent_are lent ∙ ap (map (λ (r : Row). r.0)) rows ∙ ids_in t (take (size t) (from_in (view s t x) e))
    ∙ ap (take (size t)) (from_first (view s t x) e first) ∙ whole_view s d is x few ∙ sequenced_view s t x sequenced

pub walk_starts : (s : Shape) (d : Data) → IsData s d → (x : ℕ) → x < length s.indexes → (e : ℕ) → Some e ≡ look.first s (as_table d) x → has (as_table d) e ≡ true
walk_starts s d is x few e first = first_there s d is x few (view s (as_table d) x) e (each_in_view s (as_table d) x is.table few) first

-- The list of an index

pub few_orders : (s : Shape) (d : Data) → IsData s d → (x : ℕ) → x < length s.indexes → x < length d.orders
few_orders s d is x few = let l = kinds_long s.indexes d.orders is.kinds in omega (arith, few, l)
