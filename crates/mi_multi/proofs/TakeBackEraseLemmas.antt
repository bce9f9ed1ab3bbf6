-- A row comes back: what the passes leave are the data with it, and all stands again.
-- Cited by `MultiIndex::take_back_erased`.
use Rattle.std.proofs.Common.{◌≡◌, ◌≢◌, ℕ, ◌+◌, ◌<◌, zero, suc, true, false, cond, inl, inr}
use Rattle.std.proofs.Common.{List, [], ◌∷◌, ◌++◌, get_or, length, refl, ap, sym, ◌∙◌, subst, arith}
use Rattle.std.specs.Prelude.{◌==◌}
use Rattle.std.specs.List.{AllByRecursion}
use Rattle.std.specs.Option.{option_map, option_and_then}
use Rattle.std.specs.Ordering.{nat_cmp}
use Rattle.std.specs.FinMap.{FinMap, get, entries}
use Rattle.std.proofs.lemmas.Bool.{false≢true}
use Rattle.std.proofs.lemmas.Bool.Decides.{eqb_tells}
use Rattle.std.specs.declared.option.Option.TheVariants.{None, Some}
use Rattle.mi_catalog.specs.declared.index.Index.{Index}
use Rattle.mi_catalog.specs.Kinds.{is_sequenced}
use Rattle.mi_catalog.specs.Shape.{Shape}
use Rattle.mi_model.specs.Table.{times}
use Rattle.mi_model.specs.Change.{stand}
use Rattle.mi_model.proofs.ViewLaws.{Lacks}
use Rattle.mi_node.specs.Pool.{Pooled, link_of}
use Rattle.mi_node.specs.Refs.{Ref, first_of}
use Rattle.mi_node.specs.declared.link.Tag.{Tag}
use Rattle.mi_order.specs.declared.stored.Stored.{Stored}
use Rattle.mi_index.specs.declared.structure.Structure.{Structure}
use Rattle.mi_index.specs.declared.structure.Structure.TheVariants.{Sorted, Hashed, Sequenced}
use Rattle.mi_index.specs.declared.moved_indexes.MovedIndexes.TheVariants.{All}
use Rattle.mi_index.specs.Standing.{slot_in}
use Rattle.mi_index.specs.Places.{IsWith, HasStamp}
use Rattle.mi_index.specs.Pass.{AllCan, AllLike, AreChanged, IsPass}
use Rattle.mi_index.specs.Passes.{returned as comes_back, returning}
use Rattle.mi_container.specs.Data.{Link, Data, Order, kept_of, has_stamps, IsData}
use Rattle.mi_container.specs.Data.Order.{ById, Listed}
use Rattle.mi_container.specs.Changes.{entered, left_out}
use Rattle.mi_container.specs.Inverse.{id_of_ref, relinked, row_returned}
use Rattle.mi_container.specs.Fits.{AllMeet}
use Rattle.mi_container.proofs.PairLemmas.{climbs_some, some_is}
use Rattle.mi_container.proofs.SequenceLemmas.{named_again, lacks_left}
use Rattle.mi_container.proofs.InvariantLemmas.{rows_climb}
use Rattle.mi_ids.specs.declared.entry.IdEntry.{IdEntry}
use Rattle.mi_ids.specs.IdMap.{with_live}
use Rattle.mi_multi.specs.Physical.{stored_id, order_of, orders_of, plan, neighbours_in, all_neighbours, node_in, kept_node_in, live_in, kept_in, picked}
use Rattle.mi_multi.specs.Alike.{SaysSame, IsAltered}
use Rattle.mi_multi.specs.Multi.{id_at, ids_at, own_lists, is_live, IsFor, AreLive, HasNode, IsMulti, plain_of}
use Rattle.mi_multi.proofs.PickLemmas.{get_picked}
use Rattle.mi_multi.proofs.RowLemmas.{picked_lost, picked_entered}
use Rattle.mi_multi.proofs.ListLemmas.{LacksIf, stand_there, times_middle}
use Rattle.mi_multi.proofs.SameNodeLemmas.{node_same, live_alike, kept_alike}
use Rattle.mi_multi.proofs.OrderLemmas.{Enough, orders_relinked}
use Rattle.mi_multi.proofs.EveryIndexLemmas.{Turned, Every, At, at, every, all_after, Known, all_known, all_for, seq_known, length_orders, at_stamps}
use Rattle.mi_multi.proofs.EveryIndexLemmas.{has_plan, sequenced_order, sorted_not_sequenced, hashed_not_sequenced}
use Rattle.mi_multi.proofs.LiveNodeLemmas.{live_rows_with, IsLiveRef, node_live, marked_here, marked_beside, names_apart}
use Rattle.mi_multi.proofs.LiveNodeLemmas.{lacks_middle, out_of_all, ids_same, all_right, once_more}
use Rattle.mi_multi.proofs.MarkedIdLemmas.{marked_multi}
use Rattle.mi_multi.proofs.NeighbourLemmas.{ids_append}
use Rattle.mi_multi.proofs.ReturnLemmas.{can_return, length_neighbours, has_relinked}

no_link_seen : Link
no_link_seen = record { back = None; forth = None }

neighbours_at : (m : Pooled Stored) (q y : ℕ) (os : List Order) (k : ℕ) → k < length os
    → get_or (all_neighbours m q y os) k no_link_seen ≡ neighbours_in m q (y + k) (get_or os k ById)
neighbours_at m q y [] k l = absurd (omega arith)
neighbours_at m q y (o ∷ os) zero l = let here : y ≡ y + 0 = omega arith in ap (λ x. neighbours_in m q x o) here
neighbours_at m q y (o ∷ os) (suc k) l =
    let next : suc y + k ≡ y + suc k = omega arith in neighbours_at m q (suc y) os k (omega arith) ∙ ap (λ x. neighbours_in m q x (get_or os k ById)) next

enough : (is : List Index) (links : List Link) → length links ≡ length is → Enough is links
enough [] links long = tt
enough (i ∷ is) [] long = absurd (let bad : zero ≡ suc (length is) = long in omega arith)
enough (i ∷ is) (l ∷ links) long = enough is links (let h : suc (length links) ≡ suc (length is) = long in omega arith)

-- stamps after a node came in with one that it had
stamp_still : (i : Index) (x : Structure) (m n : Pooled Stored) (r : Ref) (l : List ℕ) (stamp : ℕ)
    → IsFor i x → HasStamp x m n r stamp → has_stamps (order_of i.kind i.parts l) ≡ true
    → stamp ≡ (link_of m r.name (slot_in x)).tag.stamp → (k : ℕ) → (link_of n k (slot_in x)).tag.stamp ≡ (link_of m k (slot_in x)).tag.stamp
stamp_still i (Sorted t) m n r l stamp f h has own k =
    elim (eqb_tells r.name k) [
      | inl same ↦ subst (λ w. (link_of n w t.slot).tag.stamp ≡ (link_of m w t.slot).tag.stamp) same.1 (h.0 ∙ own)
      | inr isnt ↦ ap (λ (w : Tag). w.stamp) (h.1 k isnt.0)
    ]
stamp_still i (Hashed c) m n r l stamp f h has own k =
    elim (eqb_tells r.name k) [
      | inl same ↦ subst (λ w. (link_of n w c.slot).tag.stamp ≡ (link_of m w c.slot).tag.stamp) same.1 (h.0 ∙ own)
      | inr isnt ↦ ap (λ (w : Tag). w.stamp) (h.1 k isnt.0)
    ]
stamp_still i (Sequenced q) m n r l stamp f h has own k = absurd (false≢true (sym (ap has_stamps (sequenced_order i.kind i.parts l f)) ∙ has))

module _ (s : Shape) (ids : FinMap nat_cmp IdEntry) (m n : Pooled Stored) (xs ys : List Structure)
    (next arrivals : ℕ) (is : IsMulti s ids m xs next arrivals) (e : ℕ) (r : Ref)
    (there : get ids e ≡ Some (record { node = r; live = false })) where
  abbrev os : List Order
  os = plan s.indexes

  abbrev d : Data
  d = plain_of s ids m xs next arrivals

  abbrev links : List Link
  links = all_neighbours m r.name 0 os

  -- the data with it
  abbrev b : Data
  b = row_returned e (Some (kept_node_in m os r)) d

  kept_is : kept_of d.kept e ≡ Some (kept_node_in m os r)
  kept_is = get_picked (kept_in m os) ids e ∙ ap (option_and_then (kept_in m os)) there

  has_back : (k : ℕ) → has_stamps (get_or b.orders k ById) ≡ has_stamps (get_or os k ById)
  has_back k =
      has_relinked d.rows e links d.orders k (let p : length links ≡ length os = length_neighbours m r.name 0 os in
      let q : length os ≡ length s.indexes = length_orders s.indexes [] in
      let w : length d.orders ≡ length s.indexes = length_orders s.indexes (own_lists m xs) in omega arith)
      ∙ has_plan s.indexes (own_lists m xs) k

  -- it may come back into every index
  pub can_back : AllMeet 0 d.rows (node_in m os r).content links d.orders → IsData s b → AllCan (returning All r) xs 0 m is.rss
  can_back meet back = can_return s ids m xs next arrivals is e r there meet b refl has_back back

  module _ (meet : AllMeet 0 d.rows (node_in m os r).content links d.orders) (back : IsData s b)
      (like : AllLike xs ys) (pass : IsPass (returning All r) (comes_back All r) r 0 xs ys m n) where
    changed : AreChanged (comes_back All r) r 0 xs ys m n is.rss
    changed = pass is.rss is.stand (can_back meet back)

    abbrev new_ids : FinMap nat_cmp IdEntry
    new_ids = with_live ids e true

    turns : Every (Turned (comes_back All r) ids m n) 0 s.indexes xs ys is.rss changed.uss
    turns = every (comes_back All r) ids m n 0 s.indexes xs ys is.rss changed.uss is.kinds like is.stand changed.stand changed.done is.live

    abbrev mine : HasNode m e r
    mine = is.held e (record { node = r; live = false }) there

    id : id_at m r ≡ e
    id = ap stored_id mine.is ∙ mine.id

    not_here : (q : Ref) → IsLiveRef ids m q → id_at m q ≢ e
    not_here q live same =
        let both : record { node = r; live = false } ≡ record { node = q; live = true } = some_is (sym there ∙ sym (ap (get ids) same) ∙ live) in
        false≢true (ap (λ (a : IdEntry). a.live) both)

    stamp_of_slot : (x : ℕ) (o : Order) → At (Turned (comes_back All r) ids m n) x o
        → has_stamps o ≡ true → (k : ℕ) → (link_of n k x).tag.stamp ≡ (link_of m k x).tag.stamp
    stamp_of_slot x o (at i a c rs us l t is_order) has k =
        subst (λ w. (link_of n k w).tag.stamp ≡ (link_of m k w).tag.stamp) t.slot
        (stamp_still i a m n r l (link_of m r.name x).tag.stamp t.for_ t.done.stamped
        (sym (ap has_stamps is_order) ∙ has) (ap (λ w. (link_of m r.name w).tag.stamp) (sym t.slot)) k)

    says : (k : ℕ) → SaysSame os m n k
    says k = record {
      value = changed.keeps.values k;
      stamps = λ x has. stamp_of_slot x (get_or os x ById) (at_stamps (Turned (comes_back All r) ids m n) turns x has) has k;
    }

    altered : IsAltered os ids m n e
    altered = record {
      says = λ q a ne here. says a.node.name;
      kept = λ q a ne here dead t. changed.keeps.other_nodes a.node.name t (names_apart m q e a.node r (is.held q a here) mine ne)
          (out_of_all ids m q a is.rss here dead (is.held q a here) is.live);
    }

    others : (q : ℕ) → q ≢ e → get new_ids q ≡ get ids q
    others = marked_beside ids e (record { node = r; live = false }) true there

    now : get new_ids e ≡ Some (record { node = r; live = true })
    now = marked_here ids e (record { node = r; live = false }) true there

    rows_back : picked (live_in n os) (entries new_ids) ≡ entered e (node_in m os r) d.rows
    rows_back =
        picked_entered (live_in m os) (live_in n os) ids new_ids e others (live_alike os ids m n e altered) next (node_in n os r)
        (rows_climb s d is.is_data) (climbs_some next e (kept_node_in m os r) d.kept is.is_data.kept kept_is)
        (ap (option_and_then (live_in m os)) there) (ap (option_and_then (live_in n os)) now)
        ∙ ap (λ w. entered e w d.rows) (node_same os m n r (says r.name))

    kept_back : picked (kept_in n os) (entries new_ids) ≡ left_out e d.kept
    kept_back = picked_lost (kept_in m os) (kept_in n os) ids new_ids e others
        (kept_alike os ids m n e altered) next is.is_data.kept (ap (option_and_then (kept_in n os)) now)

    -- the id of the neighbour behind it
    named : (vs : List Ref) → AllByRecursion (IsLiveRef ids m) vs → id_of_ref d.rows (first_of vs None) ≡ option_map (id_at m) (first_of vs None)
    named [] all = refl
    named (q ∷ vs) all = named_again d.rows (id_at m q) (node_in m os q) is.is_data.names (node_live ids m os q all.0)

    lacks_first : (us vs : List Ref) → AreLive ids m (us ++ vs) → LacksIf (id_at m) (first_of vs None) us
    lacks_first us [] live = tt
    lacks_first us (q ∷ vs) live =
        let here : AllByRecursion (IsLiveRef ids m) (q ∷ vs) = all_right (IsLiveRef ids m) us (q ∷ vs) live.rows in
        lacks_left (id_at m q) (ids_at m us) (ids_at m vs)
        (subst (Lacks (id_at m q)) (ids_append (id_at m) us vs) (lacks_middle ids m (id_at m q) q us vs refl here.0 live))

    abbrev moves : ℕ → List ℕ → List ℕ
    moves k = stand (id_of_ref d.rows (get_or links k no_link_seen).forth) e

    ids_back : (k : ℕ) (rs us : List Ref) (w : IsWith r rs us) → AreLive ids m rs
        → (get_or links k no_link_seen).forth ≡ first_of w.ys None → ids_at n us ≡ moves k (ids_at m rs)
    ids_back k rs us w live forth =
        let whole : AreLive ids m (w.xs ++ w.ys) = subst (AreLive ids m) w.was live in
        let behind : AllByRecursion (IsLiveRef ids m) w.ys = all_right (IsLiveRef ids m) w.xs w.ys whole.rows in
        ids_same m n us changed.keeps.values ∙ ap (ids_at m) w.now
        ∙ sym (stand_there (id_at m) w.xs r w.ys (lacks_first w.xs w.ys whole))
        ∙ (λ i. stand (sym (named w.ys behind) i) (id i) (ids_at m (sym w.was i)))
        ∙ ap (λ o. stand (id_of_ref d.rows o) e (ids_at m rs)) (sym forth)

    step : (k : ℕ) (i : Index) (x y : Structure) (rs us : List Ref) → is_sequenced i.kind ≡ true
        → Known (comes_back All r) ids m n os (orders_of s.indexes (own_lists m xs)) (0 + k) i x y rs us → ids_at n us ≡ moves k (ids_at m rs)
    step k i (Sequenced l) y rs us seq h =
        let zeroed : 0 + k ≡ k = omega arith in
        let few : k < length os = subst (λ w. w < length os) zeroed h.1.few in
        let link : get_or links k no_link_seen ≡ neighbours_in m r.name (0 + k) (Listed []) =
        neighbours_at m r.name 0 os k few
        ∙ ap (λ o. neighbours_in m r.name (0 + k) o) (ap (λ w. get_or os w ById) (sym zeroed) ∙ h.1.plan_is ∙ sequenced_order i.kind i.parts [] seq) in
        ids_back k rs us h.0.done.back h.0.live (ap (λ (w : Link). w.forth) link ∙ h.0.done.beside.1)
    step k i (Sorted t) y rs us seq h = absurd (sorted_not_sequenced i.kind h.0.for_.0 seq)
    step k i (Hashed c) y rs us seq h = absurd (hashed_not_sequenced i.kind h.0.for_.0 seq)

    orders_back : orders_of s.indexes (own_lists n ys) ≡ relinked d.rows e links d.orders
    orders_back =
        orders_relinked d.rows e links no_link_seen moves s.indexes (own_lists m xs) (own_lists n ys) (λ k. refl)
        (seq_known (comes_back All r) ids m n os (orders_of s.indexes (own_lists m xs)) moves (all_known (comes_back All r) ids m n turns) step)
        (enough s.indexes links (length_neighbours m r.name 0 os ∙ length_orders s.indexes []))

    -- the data after it
    pub back_seen : plain_of s new_ids n ys next arrivals ≡ b
    back_seen = (λ i. record { rows = rows_back i; orders = orders_back i; next = next; arrivals = arrivals; kept = kept_back i })

    -- Lists

    live_still : (q : Ref) → IsLiveRef ids m q → IsLiveRef new_ids n q
    live_still q live = ap (get new_ids) (ap stored_id (changed.keeps.values q.name)) ∙ others (id_at m q) (not_here q live) ∙ live

    all_still : (qs : List Ref) → AllByRecursion (IsLiveRef ids m) qs → AllByRecursion (IsLiveRef new_ids n) qs
    all_still [] all = tt
    all_still (q ∷ qs) all = (live_still q all.0, all_still qs all.1)

    each_back : (rs us : List Ref) → AreLive ids m rs → IsWith r rs us → (q : ℕ) → times q (ids_at n us) ≡ cond (is_live (get new_ids q)) 1 0
    each_back rs us live w q =
        let same : times q (ids_at n us) ≡ times q (ids_at m (w.xs ++ r ∷ w.ys)) = ap (times q) (ids_same m n us changed.keeps.values ∙ ap (ids_at m) w.now) in
        let parts : times q (ids_at m (w.xs ++ r ∷ w.ys))
        ≡ cond (id_at m r == q) 1 0 + times q (ids_at m (w.xs ++ w.ys)) = times_middle (id_at m) q w.xs r w.ys in
        let was : times q (ids_at m (w.xs ++ w.ys)) ≡ cond (is_live (get ids q)) 1 0 = ap (λ k. times q (ids_at m k)) (sym w.was) ∙ live.each q in
        let more : cond {A = ℕ} (is_live (get new_ids q)) 1 0 ≡ cond (id_at m r == q) 1 0 + cond (is_live (get ids q)) 1 0 =
        once_more new_ids ids e (id_at m r) q id (ap is_live now) (ap is_live there) others in
        omega arith

    live_back : (rs us : List Ref) → AreLive ids m rs → IsWith r rs us → AreLive new_ids n us
    live_back rs us live w = record {
      rows = live_rows_with ids new_ids m n all_still r (ap (get new_ids) (ap stored_id (changed.keeps.values r.name) ∙ id) ∙ now) rs us w live.rows;
      each = each_back rs us live w;
    }

    -- all stands after it
    pub back_multi : IsMulti s new_ids n ys next arrivals
    back_multi = marked_multi s ids m n xs next arrivals is e r false true there changed.keeps.refs changed.keeps.values
        ys changed.uss changed.stand (all_for s.indexes xs ys like is.kinds)
        (all_after (Turned (comes_back All r) ids m n) (AreLive new_ids n) (λ k i x y rs us t. live_back rs us t.live t.done.back) turns)
        (subst (IsData s) (sym back_seen) back)
