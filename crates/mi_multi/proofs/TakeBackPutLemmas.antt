-- A row has its old record again: what the indexes leave are the data before the put, and all stands.
-- Cited by `MultiIndex::take_back_put`.
use Rattle.std.proofs.Common.{◌≡◌, ℕ, ◌+◌, ◌-◌, ◌<◌, zero, suc, true, false, cond, inl, inr, List}
use Rattle.std.proofs.Common.{[], ◌∷◌, ◌++◌, map, get_or, length, refl, ap, sym, ◌∙◌, subst, arith}
use Rattle.std.specs.Prelude.{◌==◌}
use Rattle.std.specs.List.{AllByRecursion}
use Rattle.std.specs.Option.{option_map, option_and_then}
use Rattle.std.specs.Ordering.{nat_cmp}
use Rattle.std.specs.FinMap.{FinMap, get, entries}
use Rattle.std.proofs.lemmas.Bool.{false≢true}
use Rattle.std.proofs.lemmas.Bool.Decides.{eqb_tells}
use Rattle.std.specs.declared.option.Option.{Option}
use Rattle.std.specs.declared.option.Option.TheVariants.{None, Some}
use Rattle.mi_catalog.specs.declared.index.Index.{Index}
use Rattle.mi_catalog.specs.Kinds.{is_sequenced}
use Rattle.mi_catalog.specs.Shape.{Shape}
use Rattle.mi_model.specs.Table.{times}
use Rattle.mi_node.specs.Pool.{Pooled, value_of, link_of}
use Rattle.mi_node.specs.Refs.{Ref}
use Rattle.mi_node.specs.declared.link.Tag.{Tag}
use Rattle.mi_node.specs.declared.link.Link.{Link as Line}
use Rattle.mi_order.specs.declared.stored.Stored.{Stored}
use Rattle.mi_node.specs.declared.old_place.OldPlace.{OldPlace as Place}
use Rattle.mi_index.specs.declared.structure.Structure.{Structure}
use Rattle.mi_index.specs.declared.structure.Structure.TheVariants.{Sorted, Hashed, Sequenced}
use Rattle.mi_index.specs.Standing.{slot_in}
use Rattle.mi_index.specs.Pass.{AllLike}
use Rattle.mi_index.specs.Rekeying.{HasMovedBack, HasMovedBackTo, returned_to, IsRekeyed}
use Rattle.mi_container.specs.Data.{Order, Data, has_stamps, content_in, content_of, IsData}
use Rattle.mi_container.specs.Data.Order.{ById, ByKey, ByHash, Listed}
use Rattle.mi_container.specs.Changes.{with_content}
use Rattle.mi_container.specs.Inverse.{OldPlace, Old, stamp_back, stamps_back, old_content}
use Rattle.mi_container.specs.Fits.{PlaceMeets, PlacesMeet}
use Rattle.mi_container.proofs.PairLemmas.{is_itself, is_other}
use Rattle.mi_ids.specs.declared.entry.IdEntry.{IdEntry}
use Rattle.mi_multi.specs.Physical.{stored_id, order_of, orders_of, plan, record_in, stamps_in, stamp_in, node_in, live_in, picked}
use Rattle.mi_multi.specs.Alike.{SaysSame, IsAltered}
use Rattle.mi_multi.specs.Multi.{id_at, ids_at, own_list, own_lists, IsFor, AreLive, HasNode, IsMulti, plain_of}
use Rattle.mi_multi.specs.Restored.{to_place}
use Rattle.mi_multi.proofs.RowLemmas.{picked_with}
use Rattle.mi_multi.proofs.ListLemmas.{itself, times_middle}
use Rattle.mi_multi.proofs.SameNodeLemmas.{live_alike, kept_still}
use Rattle.mi_multi.proofs.SettleLemmas.{orders_still}
use Rattle.mi_multi.proofs.EveryIndexLemmas.{Turned, Known, Every, At, at, every, all_after, all_known, at_plan, all_for, seq_known, at_stamps}
use Rattle.mi_multi.proofs.EveryIndexLemmas.{sequenced_order, one_plan, length_orders}
use Rattle.mi_multi.proofs.LiveNodeLemmas.{IsLiveRef, names_apart, out_of_all, all_left, all_right, all_append}
use Rattle.mi_multi.proofs.StampLemmas.{stamp_given}
use Rattle.mi_multi.proofs.OldRecordPlaceLemmas.{b, here, meets_at, places_long, given_is, placed}

-- the stamps of a node, each the old one where there is an old place
stamps_put : (m n : Pooled Stored) (q y : ℕ) (ps : List (Option OldPlace)) (os : List Order) → length ps ≡ length os
    → ((k : ℕ) → k < length os → stamp_in n q (y + k) (get_or os k ById) ≡ stamp_back (get_or ps k None) (stamp_in m q (y + k) (get_or os k ById)))
    → stamps_in n q y os ≡ stamps_back ps (stamps_in m q y os)
stamps_put m n q y [] [] long each = refl
stamps_put m n q y [] (o ∷ os) long each = absurd (let bad : zero ≡ suc (length os) = long in omega arith)
stamps_put m n q y (p ∷ ps) [] long each = absurd (let bad : suc (length ps) ≡ zero = long in omega arith)
stamps_put m n q y (p ∷ ps) (o ∷ os) long each =
    let same : y + 0 ≡ y = omega arith in
    let first : stamp_in n q y o ≡ stamp_back p (stamp_in m q y o) = subst
    (λ k. stamp_in n q k o ≡ stamp_back p (stamp_in m q k o)) same (each zero (omega arith)) in
    let rest : stamps_in n q (suc y) os ≡ stamps_back ps (stamps_in m q (suc y) os) =
    stamps_put m n q (suc y) ps os (let h : suc (length ps) ≡ suc (length os) = long in omega arith)
    (λ k l.
    let next : y + suc k ≡ suc y + k = omega arith in
    subst (λ z. stamp_in n q z (get_or os k ById) ≡ stamp_back (get_or ps k None) (stamp_in m q z (get_or os k ById))) next (each (suc k) (omega arith))) in
    (λ i. first i ∷ rest i)

module _ (s : Shape) (ids : FinMap nat_cmp IdEntry) (m n : Pooled Stored) (xs ys : List Structure)
    (next arrivals : ℕ) (is : IsMulti s ids m xs next arrivals) (e : ℕ) (r : Ref)
    (there : get ids e ≡ Some (record { node = r; live = true })) (old : Old) where
  abbrev os : List Order
  os = plan s.indexes

  abbrev d : Data
  d = plain_of s ids m xs next arrivals

  abbrev back_to : Data
  back_to = b s ids m xs next arrivals is e r there old

  abbrev places : List (Option Place)
  places = map (option_map to_place) old.places

  mine : HasNode m e r
  mine = is.held e (record { node = r; live = true }) there

  module _ (meet : PlacesMeet 0 d.rows (content_of d.rows e).values old.values old.places d.orders) (back : IsData s back_to) (like : AllLike xs ys)
      (done : IsRekeyed (returned_to places r) r (record { id = e; row = old.values }) xs ys m n is.rss) where
    abbrev Has : ℕ → Index → Structure → Structure → List Ref → List Ref → Type 0
    Has = Known (returned_to places r) ids m n os (orders_of s.indexes (own_lists m xs))

    turns : Every (Turned (returned_to places r) ids m n) 0 s.indexes xs ys is.rss done.uss
    turns = every (returned_to places r) ids m n 0 s.indexes xs ys is.rss done.uss is.kinds like is.stand done.stand done.done is.live

    known : Every Has 0 s.indexes xs ys is.rss done.uss
    known = all_known (returned_to places r) ids m n turns

    -- Values and ids

    value_here : value_of n r.name ≡ Some (record { id = e; row = old.values })
    value_here = done.values r.name ∙ ap (λ t. cond t (Some (record { id = e; row = old.values })) (value_of m r.name)) (is_itself r.name)

    value_beside : (k : ℕ) → (k == r.name) ≡ false → value_of n k ≡ value_of m k
    value_beside k ne = done.values k ∙ ap (λ t. cond t (Some (record { id = e; row = old.values })) (value_of m k)) (turned ne)
      where
        turned : (k == r.name) ≡ false → (r.name == k) ≡ false
        turned h = is_other r.name k (λ same. false≢true (sym h ∙ itself (sym same)))

    id_kept : (k : ℕ) → stored_id (value_of n k) ≡ stored_id (value_of m k)
    id_kept k =
        elim (eqb_tells k r.name) [
          | inl same ↦ subst (λ q. stored_id (value_of n q) ≡ stored_id (value_of m q)) (sym same.1)
              (ap stored_id value_here ∙ sym (ap stored_id mine.is ∙ mine.id))
          | inr isnt ↦ ap stored_id (value_beside k isnt.0)
        ]

    ids_kept : (rs : List Ref) → ids_at n rs ≡ ids_at m rs
    ids_kept [] = refl
    ids_kept (q ∷ rs) = (λ i. id_kept q.name i ∷ ids_kept rs i)

    -- In one index

    abbrev place : ℕ → Option OldPlace
    place k = get_or old.places k None

    meets : (k : ℕ) (i : Index) (x y : Structure) (rs us : List Ref) → Has k i x y rs us
        → PlaceMeets k d.rows (content_of d.rows e).values old.values (place k) (order_of i.kind i.parts (own_list m x))
    meets k i x y rs us h =
        let zeroed : 0 + k ≡ k = omega arith in
        subst (λ o. PlaceMeets k d.rows (content_of d.rows e).values old.values (place k) o) h.1.order_is
        (subst (λ w. PlaceMeets w d.rows (content_of d.rows e).values old.values (place k) (get_or d.orders k ById))
        zeroed (meets_at 0 d.rows (content_of d.rows e).values old.values old.places d.orders meet k h.1.fewer))

    has_done : (k : ℕ) (i : Index) (x y : Structure) (rs us : List Ref) → Has k i x y rs us → HasMovedBackTo (option_map to_place (place k)) x m n r rs us
    has_done k i x y rs us h = subst (λ o. HasMovedBackTo o x m n r rs us) (given_is old.places k) h.0.done

    apart : (k : ℕ) → (k == r.name) ≡ false → (r.name == k) ≡ false
    apart k h = is_other r.name k (λ same. false≢true (sym h ∙ itself (sym same)))

    unstamped : (i : Index) (l : List ℕ) → is_sequenced i.kind ≡ true → has_stamps (order_of i.kind i.parts l) ≡ true → ⊥
    unstamped i l seq has = false≢true (sym (ap has_stamps (sequenced_order i.kind i.parts l seq)) ∙ has)

    -- the stamps of other nodes
    tag_beside : (o : Option OldPlace) (i : Index) (x : Structure) (rs us : List Ref) (l : List ℕ) → IsFor i x
        → HasMovedBackTo (option_map to_place o) x m n r rs us → has_stamps (order_of i.kind i.parts l) ≡ true → (k : ℕ) → (k == r.name) ≡ false
        → (link_of n k (slot_in x)).tag.stamp ≡ (link_of m k (slot_in x)).tag.stamp
    tag_beside None i x rs us l f moved has k ne = ap (λ (w : Line). w.tag.stamp) (moved.links k)
    tag_beside (Some was) i (Sorted t) rs us l f moved has k ne = ap (λ (w : Tag). w.stamp) (moved.stamped.1 k (apart k ne))
    tag_beside (Some was) i (Hashed c) rs us l f moved has k ne = ap (λ (w : Tag). w.stamp) (moved.stamped.1 k (apart k ne))
    tag_beside (Some was) i (Sequenced q) rs us l f moved has k ne = absurd (unstamped i l f has)

    -- and its own
    own_tag : (was : OldPlace) (i : Index) (x : Structure) (rs us : List Ref) (l : List ℕ) → IsFor i x → HasMovedBack x m n r (to_place was) rs us
        → has_stamps (order_of i.kind i.parts l) ≡ true → (link_of n r.name (slot_in x)).tag.stamp ≡ was.stamp
    own_tag was i (Sorted t) rs us l f moved has = moved.stamped.0
    own_tag was i (Hashed c) rs us l f moved has = moved.stamped.0
    own_tag was i (Sequenced q) rs us l f moved has = absurd (unstamped i l f has)

    -- What the pool says of nodes

    stamp_beside : (x : ℕ) (o : Order) → At Has x o → has_stamps o ≡ true → (k : ℕ)
        → (k == r.name) ≡ false → (link_of n k x).tag.stamp ≡ (link_of m k x).tag.stamp
    stamp_beside x o (at i a c rs us l h is_order) has k ne =
        subst (λ w. (link_of n k w).tag.stamp ≡ (link_of m k w).tag.stamp) h.0.slot
        (tag_beside (place x) i a rs us l h.0.for_ (has_done x i a c rs us h) (sym (ap has_stamps is_order) ∙ has) k ne)

    says : (k : ℕ) → (k == r.name) ≡ false → SaysSame os m n k
    says k ne = record {
      value = value_beside k ne;
      stamps = λ x has. stamp_beside x (get_or os x ById) (at_stamps Has known x has) has k ne;
    }

    altered : IsAltered os ids m n e
    altered = record {
      says = λ q a ne there_. says a.node.name (names_apart m q e a.node r (is.held q a there_) mine ne);
      kept = λ q a ne there_ dead t. done.other_nodes a.node.name t (names_apart m q e a.node r (is.held q a there_) mine ne)
          (out_of_all ids m q a is.rss there_ dead (is.held q a there_) is.live);
    }

    same_stamp : (x : ℕ) (o : Order) → link_of n r.name x ≡ link_of m r.name x → stamp_in n r.name x o ≡ stamp_in m r.name x o
    same_stamp x ById same = refl
    same_stamp x (ByKey ps) same = ap (λ (w : Line). w.tag.stamp) same
    same_stamp x (ByHash ps) same = ap (λ (w : Line). w.tag.stamp) same
    same_stamp x (Listed l) same = refl

    stamp_by : (k : ℕ) (o : Order) (i : Index) (x y : Structure) (rs us : List Ref) (l : List ℕ) → Has k i x y rs us
        → o ≡ order_of i.kind i.parts l → (p : Option OldPlace) → place k ≡ p → stamp_in n r.name k o ≡ stamp_back p (stamp_in m r.name k o)
    stamp_by k o i x y rs us l h is_order None is_ =
        let same : HasMovedBackTo None x m n r rs us = subst (λ q. HasMovedBackTo (option_map to_place q) x m n r rs us) is_ (has_done k i x y rs us h) in
        same_stamp k o (subst (λ w. link_of n r.name w ≡ link_of m r.name w) h.0.slot (same.links r.name))
    stamp_by k o i x y rs us l h is_order (Some was) is_ =
        let moved : HasMovedBack x m n r (to_place was) rs us = subst
        (λ q. HasMovedBackTo (option_map to_place q) x m n r rs us) is_ (has_done k i x y rs us h) in
        let met = subst (λ q. PlaceMeets k d.rows (content_of d.rows e).values old.values q (order_of i.kind i.parts (own_list m x)))
        is_ (meets k i x y rs us h) in
        let has_ : has_stamps (order_of i.kind i.parts (own_list m x)) ≡ true = placed k d.rows
        (content_of d.rows e).values old.values was (order_of i.kind i.parts (own_list m x)) met in
        let has : has_stamps o ≡ true = ap has_stamps is_order ∙ one_plan i.kind i.parts l (own_list m x) ∙ has_ in
        stamp_given n r.name k o has
        ∙ subst (λ w. (link_of n r.name w).tag.stamp ≡ was.stamp) h.0.slot (own_tag was i x rs us l h.0.for_ moved (sym (ap has_stamps is_order) ∙ has))

    stamp_of : (k : ℕ) (o : Order) → At Has k o → stamp_in n r.name k o ≡ stamp_back (place k) (stamp_in m r.name k o)
    stamp_of k o (at i x y rs us l h is_order) = stamp_by k o i x y rs us l h is_order (place k) refl

    own_stamps : stamps_in n r.name 0 os ≡ stamps_back old.places (stamps_in m r.name 0 os)
    own_stamps =
        stamps_put m n r.name 0 old.places os (places_long 0 d.rows (content_of d.rows e).values old.values old.places d.orders meet
        ∙ length_orders s.indexes (own_lists m xs) ∙ sym (length_orders s.indexes []))
        (λ k l.
        let zeroed : 0 + k ≡ k = omega arith in
        let long : length os ≡ length s.indexes = length_orders s.indexes [] in
        let l' : k < length s.indexes = omega arith in
        subst (λ w. stamp_in n r.name (0 + k) (get_or os k ById) ≡ stamp_back (get_or old.places w None) (stamp_in m r.name (0 + k) (get_or os k ById)))
        zeroed (stamp_of (0 + k) (get_or os k ById) (at_plan Has known k l')))

    own_node_is : node_in n os r ≡ record { at = r; content = old_content old (node_in m os r).content }
    own_node_is = (λ i. record { at = r; content = record { values = record_in (value_here i); stamps = own_stamps i } })

    rows_back : picked (live_in n os) (entries ids) ≡ back_to.rows
    rows_back =
        picked_with (live_in m os) (live_in n os) ids ids e (λ q ne. refl)
        (live_alike os ids m n e altered) (node_in m os r) (old_content old (node_in m os r).content)
        (ap (option_and_then (live_in m os)) there) (ap (option_and_then (live_in n os)) there ∙ ap Some own_node_is)
        ∙ ap (λ o. with_content e (old_content old (content_in o)) d.rows) (sym (here s ids m xs next arrivals is e r there old))

    -- Lists

    list_still : (p : Option OldPlace) (i : Index) (x : Structure) (rs us : List Ref) → is_sequenced i.kind ≡ true
        → (k : ℕ) → PlaceMeets k d.rows (content_of d.rows e).values old.values p (order_of i.kind i.parts (own_list m x))
        → HasMovedBackTo (option_map to_place p) x m n r rs us → us ≡ rs
    list_still None i x rs us seq k met moved = moved.list
    list_still (Some was) i x rs us seq k met moved =
        absurd (unstamped i (own_list m x) seq (placed k d.rows (content_of d.rows e).values old.values was (order_of i.kind i.parts (own_list m x)) met))

    step : (k : ℕ) (i : Index) (x y : Structure) (rs us : List Ref) → is_sequenced i.kind ≡ true → Has (0 + k) i x y rs us → ids_at n us ≡ ids_at m rs
    step k i x y rs us seq h = ids_kept us
        ∙ ap (ids_at m) (list_still (place (0 + k)) i x rs us seq (0 + k) (meets (0 + k) i x y rs us h) (has_done (0 + k) i x y rs us h))

    abbrev stays : ℕ → List ℕ → List ℕ
    stays k l = l

    orders_back : orders_of s.indexes (own_lists n ys) ≡ d.orders
    orders_back =
        orders_still stays s.indexes (own_lists m xs) (own_lists n ys) (λ k l. refl)
        (seq_known (returned_to places r) ids m n os (orders_of s.indexes (own_lists m xs)) stays known step)

    -- the data before the put
    pub unput_seen : plain_of s ids n ys next (arrivals - 1) ≡ back_to
    unput_seen =
        let kept = kept_still os ids m n e there refl altered in
        (λ i. record { rows = rows_back i; orders = orders_back i; next = next; arrivals = arrivals - 1; kept = kept i })

    live_still : (us : List Ref) → AllByRecursion (IsLiveRef ids m) us → AllByRecursion (IsLiveRef ids n) us
    live_still [] all = tt
    live_still (w ∷ us) all = (ap (get ids) (id_kept w.name) ∙ all.0, live_still us all.1)

    live_back : (p : Option OldPlace) (x : Structure) (rs us : List Ref) → AreLive ids m rs
        → HasMovedBackTo (option_map to_place p) x m n r rs us → AreLive ids n us
    live_back None x rs us live moved = record {
      rows = live_still us (subst (AllByRecursion (IsLiveRef ids m)) (sym moved.list) live.rows);
      each = λ w. ap (times w) (ids_kept us ∙ ap (ids_at m) moved.list) ∙ live.each w;
    }
    live_back (Some was) x rs us live moved =
        let it = moved.moved in
        let whole : AllByRecursion (IsLiveRef ids m) (moved.xs ++ r ∷ moved.ys) = subst (AllByRecursion (IsLiveRef ids m)) moved.parts live.rows in
        let tail : AllByRecursion (IsLiveRef ids m) (r ∷ moved.ys) = all_right (IsLiveRef ids m) moved.xs (r ∷ moved.ys) whole in
        let others : AllByRecursion (IsLiveRef ids m) (it.xs ++ it.ys) =
        subst (AllByRecursion (IsLiveRef ids m)) it.was
        (all_append (IsLiveRef ids m) moved.xs moved.ys (all_left (IsLiveRef ids m) moved.xs (r ∷ moved.ys) whole) tail.1) in
        let now_ : AllByRecursion (IsLiveRef ids m) us = subst (AllByRecursion (IsLiveRef ids m)) (sym it.now)
        (all_append (IsLiveRef ids m) it.xs (r ∷ it.ys) (all_left (IsLiveRef ids m) it.xs it.ys others)
        (tail.0, all_right (IsLiveRef ids m) it.xs it.ys others)) in
        record {
          rows = live_still us now_;
          each = λ k. ap (times k) (ids_kept us ∙ ap (ids_at m) it.now) ∙ times_middle (id_at m) k it.xs r it.ys
              ∙ ap (λ a. cond (id_at m r == k) 1 0 + times k (ids_at m a)) (sym it.was)
              ∙ sym (times_middle (id_at m) k moved.xs r moved.ys) ∙ ap (λ a. times k (ids_at m a)) (sym moved.parts) ∙ live.each k;
        }

    all_live : AllByRecursion (AreLive ids n) done.uss
    all_live = all_after Has (AreLive ids n) (λ k i x y rs us h. live_back (place k) x rs us h.0.live (has_done k i x y rs us h)) known

    held_now : (q : ℕ) (a : IdEntry) → get ids q ≡ Some a → HasNode n q a.node
    held_now q a there_ =
        let h : HasNode m q a.node = is.held q a there_ in
        elim (eqb_tells a.node.name r.name) [
          | inl same ↦ record {
            value = record { id = e; row = old.values };
            is = ap (value_of n) same.1 ∙ value_here;
            id = sym mine.id ∙ sym (ap stored_id mine.is) ∙ sym (ap (λ k. stored_id (value_of m k)) same.1) ∙ ap stored_id h.is ∙ h.id;
            held = done.refs a.node.name ∙ h.held;
          }
          | inr isnt ↦ record { value = h.value; is = value_beside a.node.name isnt.0 ∙ h.is; id = h.id; held = done.refs a.node.name ∙ h.held }
        ]

    -- all stands again
    pub unput_multi : IsMulti s ids n ys next (arrivals - 1)
    unput_multi = record {
      rss = done.uss;
      stand = done.stand;
      kinds = all_for s.indexes xs ys like is.kinds;
      live = all_live;
      held = held_now;
      owned = λ a h. is.owned a (sym (done.refs a.name) ∙ h);
      is_data = subst (IsData s) (sym unput_seen) back;
      next_fits = is.next_fits;
      arrivals_fit = (let l = is.arrivals_fit in omega (arith, l));
      few = is.few;
    }
