-- A node that left may come back to the places that it remembers.
-- Cited by `InsertLemmas`, `NewRecordLemmas`, `OldRecordPlaceLemmas`, `RelocateLemmas`, `RestampLemmas` and 1 more.
use Rattle.std.proofs.Common.{◌≡◌, ◌≢◌, ℕ, ◌+◌, ◌^◌, ◌<◌, ◌≤◌, zero, suc, Bool, true, false}
use Rattle.std.proofs.Common.{List, [], ◌∷◌, ◌++◌, get_or, length, refl, ap, sym, ◌∙◌, subst, arith}
use Rattle.std.specs.List.{AllByRecursion, filter}
use Rattle.std.specs.Option.{option_and_then}
use Rattle.std.specs.Ordering.{nat_cmp, is_eq}
use Rattle.std.specs.FinMap.{FinMap, get, len}
use Rattle.std.proofs.lemmas.Bool.{false≢true}
use Rattle.std.specs.declared.cmp.Ordering.TheVariants.{Equal}
use Rattle.std.specs.declared.option.Option.TheVariants.{None, Some}
use Rattle.mi_value.specs.declared.compare.KeyPart.{KeyPart}
use Rattle.mi_value.specs.Order.{compare_key}
use Rattle.mi_catalog.specs.declared.index.Index.{Index}
use Rattle.mi_catalog.specs.Kinds.{is_hashed, is_sequenced}
use Rattle.mi_catalog.specs.Shape.{Shape}
use Rattle.mi_node.specs.Pool.{Pooled, value_of, link_of}
use Rattle.mi_node.specs.Refs.{Ref, first_of, last_of}
use Rattle.mi_tree.specs.Sorted.{NoneAre, side_of_new}
use Rattle.mi_chain.specs.Keying.{same_nodes, same_values, stamp_at}
use Rattle.mi_chain.specs.declared.chains.Chains.{Chains}
use Rattle.mi_order.specs.declared.stored.Stored.{Stored}
use Rattle.mi_index.specs.declared.structure.Structure.{Structure}
use Rattle.mi_index.specs.declared.structure.Structure.TheVariants.{Sorted, Hashed, Sequenced}
use Rattle.mi_index.specs.declared.moved_indexes.MovedIndexes.TheVariants.{All}
use Rattle.mi_index.specs.Orders.{stored_order, keying_of, has_one_key}
use Rattle.mi_order.specs.declared.orders.ByHash.{ByHash as HashedBy}
use Rattle.mi_index.specs.Standing.{slot_in, AllAbove, AllBelow, Climb}
use Rattle.mi_node.specs.OldPlace.{own_place}
use Rattle.mi_index.specs.Places.{CanReturn, HasOldPlace}
use Rattle.mi_index.specs.Pass.{Gives, AllStand, AllCan, AllGiven}
use Rattle.mi_index.specs.Passes.{returning}
use Rattle.mi_index.proofs.RoomLemmas.{all_like}
use Rattle.mi_container.specs.Data.{Node, Link, Order, Data, has_stamps, node_of, content_in, content_of, stamp_of, ids_by_stamp, IsData}
use Rattle.mi_container.specs.Data.Order.{ById, ByKey, ByHash, Listed}
use Rattle.mi_container.specs.Changes.{sorted_order, in_order, entered, group, ref_of, head_of}
use Rattle.mi_container.specs.Inverse.{relinked}
use Rattle.mi_container.specs.Fits.{Meet, MeetByStamp, MeetIn, AllMeet, last_or}
use Rattle.mi_container.proofs.PairLemmas.{some_is, lookup_entered, lookup_entered_same}
use Rattle.mi_ids.specs.declared.entry.IdEntry.{IdEntry}
use Rattle.mi_multi.specs.Physical.{order_of, orders_of, plan, record_in, stamps_in, neighbours_in, all_neighbours, node_in, live_in}
use Rattle.mi_multi.specs.Multi.{id_at, ids_at, own_list, own_lists, AreLive, HasNode, IsMulti, plain_of}
use Rattle.mi_multi.proofs.PickLemmas.{get_picked}
use Rattle.mi_multi.proofs.ListLemmas.{IsRow, first_row, last_row, ref_back, last_ids, head_ids, parted, filter_ids}
use Rattle.mi_multi.proofs.EveryIndexLemmas.{Every, one, none, every, all_known, Known, sorted_parts, hashed_order, sequenced_order, own_is}
use Rattle.mi_multi.proofs.LiveNodeLemmas.{IsLiveRef, node_live, rows_of, out_of, all_left, all_right}
use Rattle.mi_multi.proofs.StampLemmas.{rows, stamp_held, below_ids, above_ids, by_stamp_is}
use Rattle.mi_multi.proofs.NeighbourLemmas.{filter_eq, filter_append, ids_append}
use Rattle.mi_multi.proofs.FoundIdLemmas.{all_filter}
use Rattle.mi_multi.proofs.CountLemmas.{shorter}
use Rattle.mi_multi.proofs.PlaceLemmas.{not_equal, cut_at, one_cut}

-- Orders with another list have stamps where they had

one_has : (f : List ℕ → List ℕ) (o : Order) → has_stamps (in_order f o) ≡ has_stamps o
one_has f ById = refl
one_has f (ByKey ps) = refl
one_has f (ByHash ps) = refl
one_has f (Listed l) = refl

pub has_relinked : (rws : List (ℕ × Node)) (e : ℕ) (links : List Link) (os : List Order) (k : ℕ)
    → length links ≡ length os → has_stamps (get_or (relinked rws e links os) k ById) ≡ has_stamps (get_or os k ById)
has_relinked rws e [] [] k long = refl
has_relinked rws e [] (o ∷ os) k long = absurd (let bad : zero ≡ suc (length os) = long in omega arith)
has_relinked rws e (l ∷ links) [] k long = absurd (let bad : suc (length links) ≡ zero = long in omega arith)
has_relinked rws e (l ∷ links) (o ∷ os) zero long = one_has _ o
has_relinked rws e (l ∷ links) (o ∷ os) (suc k) long = has_relinked rws e links os k (let h : suc (length links) ≡ suc (length os) = long in omega arith)

pub length_neighbours : (m : Pooled Stored) (k y : ℕ) (os : List Order) → length (all_neighbours m k y os) ≡ length os
length_neighbours m k y [] = refl
length_neighbours m k y (o ∷ os) = ap suc (length_neighbours m k (suc y) os)

pub has_sorted : (ps : List KeyPart) → ps ≢ [] → has_stamps (sorted_order ps) ≡ true
has_sorted [] some = absurd (some refl)
has_sorted (p ∷ ps) some = refl

-- those of a key that stand directly before and behind a stamp are the neighbours that a link names by their rows
pub meets_between : (ids : FinMap nat_cmp IdEntry) (m : Pooled Stored) (os : List Order) (k a : ℕ) (link : Link) (p : Ref → Bool)
    (us vs : List Ref) (gs : List ℕ) → MeetByStamp k (rows ids m os) a link gs → gs ≡ ids_at m (filter p us) ++ ids_at m (filter p vs)
    → AllByRecursion (IsLiveRef ids m) us → AllByRecursion (IsLiveRef ids m) vs → k < length os → has_stamps (get_or os k ById) ≡ true
    → AllBelow (stamp_at m k) a us → AllAbove (stamp_at m k) a vs
    → (link.back ≡ last_of None (filter p us)) × (link.forth ≡ first_of (filter p vs) None)
meets_between ids m os k a link p us vs gs meets whole left right few has below above =
    let its : List (ℕ × Node) = rows ids m os in
    let one_way = one_cut (stamp_of its k) a (ids_at m (filter p us)) (ids_at m (filter p vs)) meets.0 meets.1 (sym whole ∙ meets.2)
    (below_ids ids m os k a us left few has below p) (above_ids ids m os k a vs right few has above p) meets.5 meets.6 in (
      meets.3 ∙ ap (λ w. ref_of its (last_or None w)) (sym one_way.0) ∙ ap (ref_of its) (last_ids (id_at m) None (filter p us))
          ∙ ref_back (id_at m) its (last_of None (filter p us))
          (last_row (id_at m) its (filter p us) (all_filter (IsRow (id_at m) its) p us (rows_of ids m os us left))),
      meets.4 ∙ ap (λ w. ref_of its (head_of w)) (sym one_way.1) ∙ ap (ref_of its) (head_ids (id_at m) (filter p vs))
          ∙ ref_back (id_at m) its (first_of (filter p vs) None)
          (first_row (id_at m) its (filter p vs) (all_filter (IsRow (id_at m) its) p vs (rows_of ids m os vs right))),
    )

-- Before a pass

abbrev pub nothing : Gives
nothing s x m n rs us = Unit {0}

done_nothing : (s : ℕ) (m : Pooled Stored) (xs : List Structure) (rss : List (List Ref)) → AllStand xs s m rss → AllGiven nothing xs s m m rss rss
done_nothing s m [] [] a = tt
done_nothing s m [] (rs ∷ rss) a = absurd a
done_nothing s m (x ∷ xs) [] a = absurd a
done_nothing s m (x ∷ xs) (rs ∷ rss) a = (tt, done_nothing (s + 1) m xs rss a.2)

module _ (s : Shape) (ids : FinMap nat_cmp IdEntry) (m : Pooled Stored) (xs : List Structure) (next arrivals : ℕ) (is : IsMulti s ids m xs next arrivals) where
  abbrev os : List Order
  os = plan s.indexes

  abbrev d : Data
  d = plain_of s ids m xs next arrivals

  abbrev pub Now : ℕ → Index → Structure → Structure → List Ref → List Ref → Type 0
  Now = Known nothing ids m m os (orders_of s.indexes (own_lists m xs))

  -- what is known of each index
  pub standing : Every Now 0 s.indexes xs xs is.rss is.rss
  standing = all_known nothing ids m m (every nothing ids m m 0 s.indexes xs xs is.rss is.rss
      is.kinds (all_like xs) is.stand is.stand (done_nothing 0 m xs is.rss is.stand) is.live)

  -- of a hashed index: its order, that its stamps climb, and that its nodes are in the order of their stamps
  module _ (k : ℕ) (i : Index) (c : Chains HashedBy) (y : Structure) (rs us : List Ref) (h : Now k i (Hashed c) y rs us) where
    pub hashed_plan : get_or os k ById ≡ ByHash i.parts
    hashed_plan = h.1.plan_is ∙ hashed_order i.kind i.parts [] h.0.for_.0

    pub hashed_climb : Climb (stamp_at m k) rs
    hashed_climb = subst (λ w. Climb (stamp_at m w) rs) h.0.slot h.0.was.1

    pub hashed_ids : ids_by_stamp k d.rows ≡ ids_at m rs
    hashed_ids =
        by_stamp_is s d ids m os k i.parts rs is.is_data refl h.1.fewer h.1.few
        (h.1.order_is ∙ hashed_order i.kind i.parts (own_list m (Hashed c)) h.0.for_.0) hashed_plan h.0.live hashed_climb

  module _ (e : ℕ) (r : Ref) (there : get ids e ≡ Some (record { node = r; live = false }))
      (meet : AllMeet 0 d.rows (node_in m os r).content (all_neighbours m r.name 0 os) d.orders) (b : Data)
      (b_rows : b.rows ≡ entered e (node_in m os r) d.rows)
      (b_orders : (k : ℕ) → has_stamps (get_or b.orders k ById) ≡ has_stamps (get_or os k ById)) (back : IsData s b) where
    abbrev mine : HasNode m e r
    mine = is.held e (record { node = r; live = false }) there

    not_here : (q : Ref) → IsLiveRef ids m q → e ≢ id_at m q
    not_here q live same =
        let both : record { node = r; live = false } ≡ record { node = q; live = true } = some_is (sym there ∙ ap (get ids) same ∙ live) in
        false≢true (ap (λ (a : IdEntry). a.live) both)

    gone : node_of d.rows e ≡ None
    gone = get_picked (live_in m os) ids e ∙ ap (option_and_then (live_in m os)) there

    -- no live node has its stamp
    differ : (k : ℕ) (q : Ref) → IsLiveRef ids m q → k < length os → has_stamps (get_or os k ById) ≡ true
        → (link_of m r.name k).tag.stamp ≢ (link_of m q.name k).tag.stamp
    differ k q live l has same =
        let ne : id_at m q ≢ e = (λ h. not_here q live (sym h)) in
        not_here q live
        (back.apart e (id_at m q) (node_in m os r) (node_in m os q) k (ap (λ z. node_of z e) b_rows ∙ lookup_entered_same e (node_in m os r) d.rows gone)
        (ap (λ z. node_of z (id_at m q)) b_rows ∙ lookup_entered (id_at m q) e (node_in m os r) d.rows ne ∙ node_live ids m os q live) (b_orders k ∙ has)
        (stamp_held m os k r l has ∙ same ∙ sym (stamp_held m os k q l has)))

    all_differ : (k : ℕ) (qs : List Ref) → AllByRecursion (IsLiveRef ids m) qs → k < length os
        → has_stamps (get_or os k ById) ≡ true → AllByRecursion (λ q. (link_of m r.name k).tag.stamp ≢ stamp_at m k q) qs
    all_differ k [] all l has = tt
    all_differ k (q ∷ qs) all l has = (differ k q all.0 l has, all_differ k qs all.1 l has)

    -- In a tree

    none_are : (ps : List KeyPart) (k : ℕ) (qs : List Ref) → AllByRecursion (IsLiveRef ids m) qs
        → (ps ≢ [] → has_stamps (get_or os k ById) ≡ true) → k < length os
        → NoneAre (side_of_new (stored_order ps) m k r (link_of m r.name k).tag.stamp) Equal qs
    none_are ps k [] all has l = tt
    none_are ps k (q ∷ qs) all has l = (
      not_equal ps m k r q (link_of m r.name k).tag.stamp e (id_at m q) mine
          (is.held (id_at m q) (record { node = q; live = true }) all.0) (not_here q all.0) (λ some. differ k q all.0 l (has some)),
      none_are ps k qs all.1 has l,
    )

    -- In chains

    key_for : (h : HashedBy) (q : Ref) → IsLiveRef ids m q
        → is_eq (compare_key h.parts (record_in (value_of m r.name)) (content_of d.rows (id_at m q)).values) ≡ same_nodes (keying_of h) m r q
    unfolding same_nodes
    key_for h q live =
        let its : HasNode m (id_at m q) q = is.held (id_at m q) (record { node = q; live = true }) live in
        let its_values : (content_of d.rows (id_at m q)).values ≡ record_in (value_of m q.name) = ap (λ o. (content_in o).values) (node_live ids m os q live) in
        (λ i. is_eq (compare_key h.parts (record_in (value_of m r.name)) (its_values i)))
        ∙ (λ i. is_eq (compare_key h.parts (record_in (mine.is i)) (record_in (its.is i))))
        ∙ sym (λ i. same_values (has_one_key h.parts) (mine.is i) (its.is i))

    keys_for : (h : HashedBy) (qs : List Ref) → AllByRecursion (IsLiveRef ids m) qs
        → AllByRecursion
        (λ q. is_eq (compare_key h.parts (record_in (value_of m r.name)) (content_of d.rows (id_at m q)).values) ≡ same_nodes (keying_of h) m r q) qs
    keys_for h [] all = tt
    keys_for h (q ∷ qs) all = (key_for h q all.0, keys_for h qs all.1)

    -- where it stands by its stamp, and beside which nodes of its key
    abbrev ByStamp : HashedBy → ℕ → List Ref → Type 0
    ByStamp h k rs = (us : List Ref) × (vs : List Ref) × (rs ≡ us ++ vs)
        × AllBelow (stamp_at m k) (link_of m r.name k).tag.stamp us × AllAbove (stamp_at m k) (link_of m r.name k).tag.stamp vs
        × ((link_of m r.name k).back ≡ last_of None (filter (same_nodes (keying_of h) m r) us))
        × ((link_of m r.name k).forth ≡ first_of (filter (same_nodes (keying_of h) m r) vs) None)

    in_chains : (k : ℕ) (h : HashedBy) (rs : List Ref) → ids_by_stamp k d.rows ≡ ids_at m rs → AreLive ids m rs
        → Climb (stamp_at m k) rs → k < length os → has_stamps (get_or os k ById) ≡ true
        → (a : ℕ) → a ≡ (link_of m r.name k).tag.stamp
        → MeetByStamp k d.rows a (record { back = (link_of m r.name k).back; forth = (link_of m r.name k).forth })
        (group h.parts k d.rows (record_in (value_of m r.name)))
        → ByStamp h k rs
    in_chains k h rs by live climb l has a a_is meets =
        let c = cut_at (stamp_at m k) (link_of m r.name k).tag.stamp rs climb (all_differ k rs live.rows l has) in
        let p : ℕ → Bool = λ w. is_eq (compare_key h.parts (record_in (value_of m r.name)) (content_of d.rows w).values) in
        let p' : Ref → Bool = same_nodes (keying_of h) m r in
        let both : AllByRecursion (IsLiveRef ids m) (c.xs ++ c.ys) = subst (AllByRecursion (IsLiveRef ids m)) c.parts live.rows in
        let left : AllByRecursion (IsLiveRef ids m) c.xs = all_left (IsLiveRef ids m) c.xs c.ys both in
        let right : AllByRecursion (IsLiveRef ids m) c.ys = all_right (IsLiveRef ids m) c.xs c.ys both in
        let alike : filter (λ q. p (id_at m q)) (c.xs ++ c.ys) ≡ filter p' c.xs ++ filter p' c.ys =
        filter_eq (λ q. p (id_at m q)) p' (c.xs ++ c.ys) (keys_for h (c.xs ++ c.ys) both) ∙ filter_append p' c.xs c.ys in
        let whole : group h.parts k d.rows (record_in (value_of m r.name)) ≡ ids_at m (filter p' c.xs) ++ ids_at m (filter p' c.ys) =
        ap (filter p) (by ∙ ap (ids_at m) c.parts) ∙ filter_ids (id_at m) p (c.xs ++ c.ys)
        ∙ ap (ids_at m) alike ∙ ids_append (id_at m) (filter p' c.xs) (filter p' c.ys) in
        let beside = meets_between ids m os k a (record { back = (link_of m r.name k).back; forth = (link_of m r.name k).forth }) p' c.xs c.ys
        (group h.parts k d.rows (record_in (value_of m r.name))) meets whole left right l has
        (subst (λ w. AllBelow (stamp_at m k) w c.xs) (sym a_is) c.below) (subst (λ w. AllAbove (stamp_at m k) w c.ys) (sym a_is) c.above) in
        (c.xs, c.ys, c.parts, c.below, c.above, beside.0, beside.1)

    -- In a list

    abbrev Between : ℕ → List Ref → Type 0
    Between k rs = (us : List Ref) × (vs : List Ref) × (rs ≡ us ++ vs)
        × ((link_of m r.name k).back ≡ last_of None us) × ((link_of m r.name k).forth ≡ first_of vs None)

    in_list : (k : ℕ) (rs : List Ref) (ls : List ℕ) → ls ≡ ids_at m rs → AreLive ids m rs
        → Meet d.rows (record { back = (link_of m r.name k).back; forth = (link_of m r.name k).forth }) ls → Between k rs
    in_list k rs ls own live meets =
        let h = parted (id_at m) rs meets.0 meets.1 (sym own ∙ meets.2) in
        let both : AllByRecursion (IsLiveRef ids m) (h.0 ++ h.1) = subst (AllByRecursion (IsLiveRef ids m)) h.2 live.rows in (
          h.0,
          h.1,
          h.2,
          meets.3 ∙ ap (λ w. ref_of d.rows (last_or None w)) (sym h.3) ∙ ap (ref_of d.rows) (last_ids (id_at m) None h.0)
              ∙ ref_back (id_at m) d.rows (last_of None h.0) (last_row (id_at m) d.rows h.0 (rows_of ids m os h.0 (all_left (IsLiveRef ids m) h.0 h.1 both))),
          meets.4 ∙ ap (λ w. ref_of d.rows (head_of w)) (sym h.4) ∙ ap (ref_of d.rows) (head_ids (id_at m) h.1)
              ∙ ref_back (id_at m) d.rows (first_of h.1 None)
              (first_row (id_at m) d.rows h.1 (rows_of ids m os h.1 (all_right (IsLiveRef ids m) h.0 h.1 both))),
        )

    -- In any index

    abbrev MeetsAt : ℕ → Index → Structure → Type 0
    MeetsAt k i x = MeetIn k d.rows (record_in (value_of m r.name)) (get_or (stamps_in m r.name 0 os) k 0)
        (neighbours_in m r.name k (order_of i.kind i.parts [])) (order_of i.kind i.parts (own_list m x))

    place_in : (k : ℕ) (i : Index) (x y : Structure) (rs us : List Ref) → Now k i x y rs us
        → MeetsAt k i x → HasOldPlace x m r (own_place (link_of m r.name k)) rs
    place_in k i (Sorted t) y rs us h meets =
        let slot : t.slot ≡ k = h.0.slot in
        let parts : t.order.parts ≡ i.parts = h.0.for_.1 in
        let plan_is : get_or os k ById ≡ sorted_order i.parts = h.1.plan_is ∙ sorted_parts i.kind i.parts [] h.0.for_.0 in
        subst (λ w. NoneAre (side_of_new (stored_order t.order.parts) m w r (link_of m r.name k).tag.stamp) Equal rs) (sym slot)
        (none_are t.order.parts k rs h.0.live.rows (λ some. ap has_stamps plan_is ∙ has_sorted i.parts (λ none_. some (parts ∙ none_))) h.1.few)
    place_in k i (Hashed c) y rs us h meets =
        let slot : c.slot ≡ k = h.0.slot in
        let parts : c.keys.parts ≡ i.parts = h.0.for_.1 in
        let hashed : is_hashed i.kind ≡ true = h.0.for_.0 in
        let has : has_stamps (get_or os k ById) ≡ true = ap has_stamps (hashed_plan k i c y rs us h) in
        let stamp = stamp_held m os k r h.1.few has in
        let met : MeetIn k d.rows (record_in (value_of m r.name)) (get_or (stamps_in m r.name 0 os) k 0)
        (neighbours_in m r.name k (ByHash i.parts)) (ByHash i.parts) =
        subst (λ w. MeetIn k d.rows (record_in (value_of m r.name)) (get_or (stamps_in m r.name 0 os) k 0) (neighbours_in m r.name k (ByHash i.parts)) w)
        (hashed_order i.kind i.parts (own_list m (Hashed c)) hashed)
        (subst (λ w. MeetIn k d.rows (record_in (value_of m r.name)) (get_or (stamps_in m r.name 0 os) k 0)
        (neighbours_in m r.name k w) (order_of i.kind i.parts (own_list m (Hashed c))))
        (hashed_order i.kind i.parts [] hashed) meets) in
        let same : ByStamp c.keys k rs = in_chains k c.keys rs (hashed_ids k i c y rs us h) h.0.live (hashed_climb k i c y rs us h) h.1.few has (get_or (stamps_in m r.name 0 os) k 0) stamp
        (subst (λ w. MeetByStamp k d.rows (get_or (stamps_in m r.name 0 os) k 0)
        (record { back = (link_of m r.name k).back; forth = (link_of m r.name k).forth }) (group w k d.rows (record_in (value_of m r.name))))
        (sym parts) met) in
        record {
          xs = same.0;
          ys = same.1;
          parts = same.2;
          below = subst (λ w. AllBelow (stamp_at m w) (link_of m r.name k).tag.stamp same.0) (sym slot) same.3;
          above = subst (λ w. AllAbove (stamp_at m w) (link_of m r.name k).tag.stamp same.1) (sym slot) same.4;
          beside = (same.5, same.6);
        }
    place_in k i (Sequenced l) y rs us h meets =
        let slot : slot_in (Sequenced l) ≡ k = h.0.slot in
        let seq : is_sequenced i.kind ≡ true = h.0.for_ in
        let met : Meet d.rows (record { back = (link_of m r.name k).back; forth = (link_of m r.name k).forth }) (own_list m (Sequenced l)) =
        subst (λ w. MeetIn k d.rows (record_in (value_of m r.name)) (get_or (stamps_in m r.name 0 os) k 0) (neighbours_in m r.name k (Listed [])) w)
        (sequenced_order i.kind i.parts (own_list m (Sequenced l)) seq)
        (subst (λ w. MeetIn k d.rows (record_in (value_of m r.name)) (get_or (stamps_in m r.name 0 os) k 0)
        (neighbours_in m r.name k w) (order_of i.kind i.parts (own_list m (Sequenced l))))
        (sequenced_order i.kind i.parts [] seq) meets) in
        let got : Between k rs = in_list k rs (own_list m (Sequenced l)) (own_is i (Sequenced l) m rs seq h.0.was seq) h.0.live met in
        record { own = ap (λ w. own_place (link_of m r.name w)) (sym slot); xs = got.0; ys = got.1; parts = got.2; beside = (got.3, got.4) }

    one_return : (k : ℕ) (i : Index) (x y : Structure) (rs us : List Ref) → Now k i x y rs us
        → MeetsAt k i x → CanReturn x m r (own_place (link_of m r.name k)) rs
    one_return k i x y rs us h meets = record {
      held = mine.held;
      out = out_of ids m e (record { node = r; live = false }) rs there refl mine h.0.live.rows;
      few =
          let l : length rs + 1 ≤ len ids = shorter ids m rs h.0.live e (record { node = r; live = false }) there refl in
          let f : len ids ≤ 2 ^ 31 = is.few in
          omega arith;
      place = place_in k i x y rs us h meets;
    }

    all_return : {k : ℕ} {js : List Index} {us vs : List Structure} {rss uss : List (List Ref)} → Every Now k js us vs rss uss
        → AllMeet k d.rows (node_in m os r).content (all_neighbours m r.name k (plan js)) (orders_of js (own_lists m us)) → AllCan (returning All r) us k m rss
    all_return none meets = tt
    all_return (one {s = k} {i = i} {x = x} {y = y} {rs = rs} {us = us} {is = js} {xs = xs'} {rss = rss} h rest) meets =
        let next_ : suc k ≡ k + 1 = omega arith in (
          one_return k i x y rs us h meets.0,
          all_return rest (subst
              (λ w. AllMeet w d.rows (node_in m os r).content (all_neighbours m r.name w (plan js)) (orders_of js (own_lists m xs'))) next_ meets.1),
        )

    -- it may come back in every index
    pub can_return : AllCan (returning All r) xs 0 m is.rss
    can_return = all_return standing meet
