-- A node may go back to the places that its record had before a put.
-- Cited by `MultiIndex::take_back_put` and `TakeBackPutLemmas`.
use Rattle.std.proofs.Common.{◌≡◌, ◌≢◌, ℕ, ◌+◌, ◌^◌, ◌<◌, ◌≤◌, zero, suc, Bool, true, false, cond, List}
use Rattle.std.proofs.Common.{[], ◌∷◌, ◌++◌, map, get_or, length, refl, ap, sym, ◌∙◌, subst, arith}
use Rattle.std.specs.Prelude.{pos}
use Rattle.std.specs.List.{AllByRecursion, filter}
use Rattle.std.specs.Option.{option_map}
use Rattle.std.specs.Ordering.{nat_cmp, is_eq, ordering_reverse}
use Rattle.std.specs.Cmp.{IsTotalOrder}
use Rattle.std.specs.FinMap.{FinMap, get, len}
use Rattle.std.proofs.lemmas.Bool.{false≢true}
use Rattle.std.specs.declared.cmp.Ordering.{Ordering}
use Rattle.std.specs.declared.cmp.Ordering.TheVariants.{Less, Equal, Greater}
use Rattle.std.specs.declared.option.Option.{Option}
use Rattle.std.specs.declared.option.Option.TheVariants.{None, Some}
use Rattle.mi_value.specs.declared.value.Value.{Value}
use Rattle.mi_value.specs.declared.value.Value.TheVariants.{Int}
use Rattle.mi_value.specs.declared.compare.KeyPart.{KeyPart}
use Rattle.mi_value.specs.Order.{compare_key}
use Rattle.mi_value.proofs.OrderLaws.{compare_key_total}
use Rattle.mi_catalog.specs.declared.index.Index.{Index}
use Rattle.mi_catalog.specs.Kinds.{is_sequenced}
use Rattle.mi_catalog.specs.Shape.{Shape}
use Rattle.mi_model.proofs.ViewLaws.{Lacks}
use Rattle.mi_node.specs.Pool.{Pooled, value_of, link_of}
use Rattle.mi_node.specs.Refs.{Ref, first_of, last_of}
use Rattle.mi_node.specs.declared.old_place.OldPlace.{OldPlace as Place}
use Rattle.mi_tree.specs.Sorted.{NoneAre}
use Rattle.mi_chain.specs.Keying.{same_values, stamp_at}
use Rattle.mi_order.specs.declared.stored.Stored.{Stored}
use Rattle.mi_index.specs.declared.structure.Structure.{Structure}
use Rattle.mi_index.specs.declared.structure.Structure.TheVariants.{Sorted, Hashed, Sequenced}
use Rattle.mi_catalog.specs.Key.{id_part}
use Rattle.mi_index.specs.Orders.{stored_order, has_one_key}
use Rattle.mi_index.specs.Standing.{AllAbove, AllBelow, Climb}
use Rattle.mi_index.specs.Places.{given_at}
use Rattle.mi_index.specs.Pass.{AllCan}
use Rattle.mi_index.specs.Rekeying.{side_of_value, KeepsKey, CanMoveBackTo, HasOldPlaceFor, returning_to}
use Rattle.mi_container.specs.Data.{Content, Node, Order, Data, parts_of, has_stamps, node_of, content_in, content_of, ids_by_stamp, IsData}
use Rattle.mi_container.specs.Data.Order.{ById, ByKey, ByHash, Listed}
use Rattle.mi_container.specs.Changes.{sorted_order, group}
use Rattle.mi_container.specs.Inverse.{OldPlace, Old, stamp_back, stamps_back, old_content, taken_back}
use Rattle.mi_container.specs.Inverse.Inverse.{Put}
use Rattle.mi_container.specs.Fits.{MeetByStamp, PlaceMeets, PlacesMeet}
use Rattle.mi_container.specs.Backs.{place_seen}
use Rattle.mi_container.proofs.ContentLemmas.{node_with, node_beside}
use Rattle.mi_ids.specs.declared.entry.IdEntry.{IdEntry}
use Rattle.mi_multi.specs.Physical.{stored_id, order_of, plan, record_in, stamps_in, node_in}
use Rattle.mi_multi.specs.Multi.{id_at, ids_at, own_list, own_lists, AreLive, HasNode, IsMulti, plain_of}
use Rattle.mi_multi.specs.Restored.{to_place}
use Rattle.mi_multi.proofs.ListLemmas.{filter_ids}
use Rattle.mi_multi.proofs.EveryIndexLemmas.{Every, one, none, sorted_parts, hashed_order, sequenced_order, has_plan, length_orders}
use Rattle.mi_multi.proofs.LiveNodeLemmas.{IsLiveRef, node_live, holds, lacks_middle, all_left, all_right, all_append}
use Rattle.mi_multi.proofs.StampLemmas.{stamp_held}
use Rattle.mi_multi.proofs.NeighbourLemmas.{filter_eq, filter_append, ids_append}
use Rattle.mi_multi.proofs.CountLemmas.{no_longer}
use Rattle.mi_multi.proofs.PlaceLemmas.{value_not_equal, cut_at}
use Rattle.mi_multi.proofs.ReturnLemmas.{Now, standing, has_sorted, hashed_plan, hashed_climb, hashed_ids, meets_between}

-- Keys

back_equal : (o p : Ordering) → p ≡ ordering_reverse o → is_eq o ≡ true → p ≡ Equal
back_equal Less p h eq = absurd (false≢true eq)
back_equal Equal p h eq = h
back_equal Greater p h eq = absurd (false≢true eq)

-- keys that are equal in one direction are in the other
equal_back : (ps : List KeyPart) (a b : List Value) → is_eq (compare_key ps a b) ≡ true → compare_key ps b a ≡ Equal
equal_back ps a b h = let o : IsTotalOrder (compare_key ps) = compare_key_total ps in back_equal (compare_key ps a b) (compare_key ps b a) (o.antisymm b a) h

self_equal : (o : Ordering) → o ≡ ordering_reverse o → o ≡ Equal
self_equal Less h = absurd (cc)
self_equal Equal h = refl
self_equal Greater h = absurd (cc)

-- by the ids alone two nodes of one id are equal
same_ids : (w u : Stored) → w.id ≡ u.id → stored_order [] w u ≡ Equal
same_ids w u h =
    let o : IsTotalOrder (compare_key id_part) = compare_key_total id_part in
    ap (λ n. compare_key id_part (Int (pos n) ∷ []) (Int (pos u.id) ∷ [])) h
    ∙ self_equal (compare_key id_part (Int (pos u.id) ∷ []) (Int (pos u.id) ∷ [])) (o.antisymm (Int (pos u.id) ∷ []) (Int (pos u.id) ∷ []))

-- Places

pub meets_at : (y : ℕ) (rows : List (ℕ × Node)) (now old : List Value) (ps : List (Option OldPlace)) (os : List Order)
    → PlacesMeet y rows now old ps os → (k : ℕ) → k < length os → PlaceMeets (y + k) rows now old (get_or ps k None) (get_or os k ById)
meets_at y rows now old [] [] meet k l = absurd (omega arith)
meets_at y rows now old [] (o ∷ os) meet k l = absurd meet
meets_at y rows now old (p ∷ ps) [] meet k l = absurd meet
meets_at y rows now old (p ∷ ps) (o ∷ os) meet zero l = let here : y ≡ y + 0 = omega arith in subst (λ n. PlaceMeets n rows now old p o) here meet.0
meets_at y rows now old (p ∷ ps) (o ∷ os) meet (suc k) l =
    let next : suc y + k ≡ y + suc k = omega arith in
    subst (λ n. PlaceMeets n rows now old (get_or ps k None) (get_or os k ById)) next (meets_at (suc y) rows now old ps os meet.1 k (omega arith))

pub places_long : (y : ℕ) (rows : List (ℕ × Node)) (now old : List Value) (ps : List (Option OldPlace)) (os : List Order)
    → PlacesMeet y rows now old ps os → length ps ≡ length os
places_long y rows now old [] [] meet = refl
places_long y rows now old [] (o ∷ os) meet = absurd meet
places_long y rows now old (p ∷ ps) [] meet = absurd meet
places_long y rows now old (p ∷ ps) (o ∷ os) meet = ap suc (places_long (suc y) rows now old ps os meet.1)

-- the indexes take places as they are kept
pub taken_as_kept : (ps : List (Option Place)) → map (option_map to_place) (map (option_map place_seen) ps) ≡ ps
taken_as_kept [] = refl
taken_as_kept (None ∷ ps) = ap (λ qs. None ∷ qs) (taken_as_kept ps)
taken_as_kept (Some p ∷ ps) = ap (λ qs. Some p ∷ qs) (taken_as_kept ps)

pub given_is : (ps : List (Option OldPlace)) (k : ℕ) → given_at (map (option_map to_place) ps) k ≡ option_map to_place (get_or ps k None)
given_is [] k = refl
given_is (p ∷ ps) zero = refl
given_is (p ∷ ps) (suc k) = given_is ps k

-- only an index with stamps gets a place
pub placed : (x : ℕ) (rows : List (ℕ × Node)) (now old : List Value) (was : OldPlace) (o : Order) → PlaceMeets x rows now old (Some was) o → has_stamps o ≡ true
placed x rows now old was ById meet = sym meet.0
placed x rows now old was (ByKey ps) meet = refl
placed x rows now old was (ByHash ps) meet = refl
placed x rows now old was (Listed l) meet = sym meet.0

stamp_back_at : (ps : List (Option OldPlace)) (stamps : List ℕ) (k : ℕ) → length ps ≡ length stamps
    → get_or (stamps_back ps stamps) k 0 ≡ stamp_back (get_or ps k None) (get_or stamps k 0)
stamp_back_at [] stamps k long = refl
stamp_back_at (p ∷ ps) [] k long = absurd (let bad : suc (length ps) ≡ zero = long in omega arith)
stamp_back_at (p ∷ ps) (a ∷ stamps) zero long = refl
stamp_back_at (p ∷ ps) (a ∷ stamps) (suc k) long = stamp_back_at ps stamps k (let h : suc (length ps) ≡ suc (length stamps) = long in omega arith)

length_stamps : (m : Pooled Stored) (q y : ℕ) (os : List Order) → length (stamps_in m q y os) ≡ length os
length_stamps m q y [] = refl
length_stamps m q y (o ∷ os) = ap suc (length_stamps m q (suc y) os)

-- Lists

climb_left : (f : Ref → ℕ) (r : Ref) (as_ bs : List Ref) → Climb f (as_ ++ r ∷ bs) → Climb f (as_ ++ bs)
climb_left f r [] bs up = up.1
climb_left f r (a ∷ as_) bs up = (above_left as_ up.0, climb_left f r as_ bs up.1)
  where
    above_left : (us : List Ref) → AllAbove f (f a) (us ++ r ∷ bs) → AllAbove f (f a) (us ++ bs)
    above_left [] all = all.1
    above_left (u ∷ us) all = (all.0, above_left us all.1)

filter_out : (p : Ref → Bool) (r : Ref) (as_ bs : List Ref) → p r ≡ false → filter p (as_ ++ r ∷ bs) ≡ filter p (as_ ++ bs)
filter_out p r [] bs no_ = ap (λ t. cond t (r ∷ filter p bs) (filter p bs)) no_
filter_out p r (a ∷ as_) bs no_ = ap (λ q. cond (p a) (a ∷ q) q) (filter_out p r as_ bs no_)

module _ (s : Shape) (ids : FinMap nat_cmp IdEntry) (m : Pooled Stored) (xs : List Structure)
    (next arrivals : ℕ) (is : IsMulti s ids m xs next arrivals) (e : ℕ) (r : Ref)
    (there : get ids e ≡ Some (record { node = r; live = true })) (old : Old) where
  abbrev os : List Order
  os = plan s.indexes

  abbrev d : Data
  d = plain_of s ids m xs next arrivals

  abbrev now : List Value
  now = (content_of d.rows e).values

  -- the value, and the data, with the old record
  abbrev pub v : Stored
  v = record { id = e; row = old.values }

  abbrev pub b : Data
  b = taken_back (Put (record { id = e; at = r }) old) d

  abbrev pub content : Content
  content = old_content old (node_in m os r).content

  mine : HasNode m e r
  mine = is.held e (record { node = r; live = true }) there

  pub id : id_at m r ≡ e
  id = ap stored_id mine.is ∙ mine.id

  pub here : node_of d.rows e ≡ Some (node_in m os r)
  here = ap (node_of d.rows) (sym id) ∙ node_live ids m os r (ap (get ids) id ∙ there)

  now_is : now ≡ mine.value.row
  now_is = ap (λ o. (content_in o).values) here ∙ ap record_in mine.is

  back_there : node_of b.rows e ≡ Some (record { at = r; content = content })
  back_there = node_with e (old_content old (content_of d.rows e)) d.rows (node_in m os r) here
      ∙ ap (λ o. Some (record { at = r; content = old_content old (content_in o) })) here

  module _ (meet : PlacesMeet 0 d.rows now old.values old.places d.orders) (back : IsData s b) where
    abbrev place : ℕ → Option OldPlace
    place k = get_or old.places k None

    meets : (k : ℕ) (i : Index) (x y : Structure) (rs us : List Ref) → Now s ids m xs next arrivals is k i x y rs us
        → PlaceMeets k d.rows now old.values (place k) (order_of i.kind i.parts (own_list m x))
    meets k i x y rs us h =
        let zeroed : 0 + k ≡ k = omega arith in
        subst (λ o. PlaceMeets k d.rows now old.values (place k) o) h.1.order_is
        (subst (λ n. PlaceMeets n d.rows now old.values (place k) (get_or d.orders k ById))
        zeroed (meets_at 0 d.rows now old.values old.places d.orders meet k h.1.fewer))

    long : length old.places ≡ length (stamps_in m r.name 0 os)
    long =
        places_long 0 d.rows now old.values old.places d.orders meet ∙ length_orders s.indexes (own_lists m xs)
        ∙ sym (length_orders s.indexes []) ∙ sym (length_stamps m r.name 0 os)

    -- no other live node has the old stamp
    differ : (k : ℕ) (q : Ref) → IsLiveRef ids m q → id_at m q ≢ e → k < length os → has_stamps (get_or os k ById) ≡ true
        → (was : OldPlace) → place k ≡ Some was → was.stamp ≢ (link_of m q.name k).tag.stamp
    differ k q live ne l has was is_ same =
        let mine_ : get_or content.stamps k 0 ≡ was.stamp = stamp_back_at old.places (stamps_in m r.name 0 os) k long
        ∙ ap (λ o. stamp_back o (get_or (stamps_in m r.name 0 os) k 0)) is_ in
        ne (sym (back.apart e (id_at m q) (record { at = r; content = content }) (node_in m os q) k back_there
        (node_beside (id_at m q) e (old_content old (content_of d.rows e)) d.rows ne ∙ node_live ids m os q live)
        (has_plan s.indexes (own_lists m xs) k ∙ has) (mine_ ∙ same ∙ sym (stamp_held m os k q l has))))

    all_differ : (k : ℕ) (qs : List Ref) → AllByRecursion (IsLiveRef ids m) qs → Lacks e (ids_at m qs) → k < length os
        → has_stamps (get_or os k ById) ≡ true → (was : OldPlace) → place k ≡ Some was → AllByRecursion (λ q. was.stamp ≢ stamp_at m k q) qs
    all_differ k [] all others l has was is_ = tt
    all_differ k (q ∷ qs) all others l has was is_ = (differ k q all.0 others.0 l has was is_, all_differ k qs all.1 others.1 l has was is_)

    -- In a tree

    none_are : (ps : List KeyPart) (k : ℕ) (qs : List Ref) → AllByRecursion (IsLiveRef ids m) qs → Lacks e (ids_at m qs)
        → (ps ≢ [] → has_stamps (get_or os k ById) ≡ true) → k < length os → (was : OldPlace) → place k ≡ Some was
        → NoneAre (side_of_value (stored_order ps) m k v was.stamp) Equal qs
    none_are ps k [] all others has l was is_ = tt
    none_are ps k (q ∷ qs) all others has l was is_ = (
      value_not_equal ps m k q was.stamp v (id_at m q) (is.held (id_at m q) (record { node = q; live = true }) all.0)
          (λ same. others.0 (sym same)) (λ some. differ k q all.0 others.0 l (has some) was is_),
      none_are ps k qs all.1 others.1 has l was is_,
    )

    -- In chains

    abbrev has_key : List KeyPart → Ref → Bool
    has_key ps q = same_values (has_one_key ps) (Some v) (value_of m q.name)

    key_for : (ps : List KeyPart) (q : Ref) → IsLiveRef ids m q → is_eq (compare_key ps old.values (content_of d.rows (id_at m q)).values) ≡ has_key ps q
    key_for ps q live =
        let its : HasNode m (id_at m q) q = is.held (id_at m q) (record { node = q; live = true }) live in
        let its_values : (content_of d.rows (id_at m q)).values ≡ record_in (value_of m q.name) = ap (λ o. (content_in o).values) (node_live ids m os q live) in
        (λ i. is_eq (compare_key ps old.values (its_values i))) ∙ (λ i. is_eq (compare_key ps old.values (record_in (its.is i))))
        ∙ sym (λ i. same_values (has_one_key ps) (Some v) (its.is i))

    keys_for : (ps : List KeyPart) (qs : List Ref) → AllByRecursion (IsLiveRef ids m) qs
        → AllByRecursion (λ q. is_eq (compare_key ps old.values (content_of d.rows (id_at m q)).values) ≡ has_key ps q) qs
    keys_for ps [] all = tt
    keys_for ps (q ∷ qs) all = (key_for ps q all.0, keys_for ps qs all.1)

    -- where it stands by the old stamp, and beside which nodes of the old key
    abbrev ByStamp : List KeyPart → ℕ → OldPlace → List Ref → Type 0
    ByStamp ps k was qs = (us : List Ref) × (vs : List Ref) × (qs ≡ us ++ vs) × AllBelow (stamp_at m k) was.stamp us × AllAbove (stamp_at m k) was.stamp vs
        × (was.link.back ≡ last_of None (filter (has_key ps) us)) × (was.link.forth ≡ first_of (filter (has_key ps) vs) None)

    in_chains : (k : ℕ) (ps : List KeyPart) (as_ bs : List Ref) → ids_by_stamp k d.rows ≡ ids_at m (as_ ++ r ∷ bs)
        → AllByRecursion (IsLiveRef ids m) (as_ ++ bs) → Lacks e (ids_at m (as_ ++ bs)) → Climb (stamp_at m k) (as_ ++ r ∷ bs) → k < length os
        → has_stamps (get_or os k ById) ≡ true → (was : OldPlace) → place k ≡ Some was → is_eq (compare_key ps old.values now) ≡ false
        → MeetByStamp k d.rows was.stamp was.link (group ps k d.rows old.values) → ByStamp ps k was (as_ ++ bs)
    in_chains k ps as_ bs by live others climb l has was is_ changed meets_ =
        let c = cut_at (stamp_at m k) was.stamp (as_ ++ bs) (climb_left (stamp_at m k) r as_ bs climb) (all_differ k (as_ ++ bs) live others l has was is_) in
        let p : ℕ → Bool = λ w. is_eq (compare_key ps old.values (content_of d.rows w).values) in
        let p' : Ref → Bool = has_key ps in
        let both : AllByRecursion (IsLiveRef ids m) (c.xs ++ c.ys) = subst (AllByRecursion (IsLiveRef ids m)) c.parts live in
        let left : AllByRecursion (IsLiveRef ids m) c.xs = all_left (IsLiveRef ids m) c.xs c.ys both in
        let right : AllByRecursion (IsLiveRef ids m) c.ys = all_right (IsLiveRef ids m) c.xs c.ys both in
        let alike : filter (λ q. p (id_at m q)) (c.xs ++ c.ys) ≡ filter p' c.xs ++ filter p' c.ys =
        filter_eq (λ q. p (id_at m q)) p' (c.xs ++ c.ys) (keys_for ps (c.xs ++ c.ys) both) ∙ filter_append p' c.xs c.ys in
        let own_ : p (id_at m r) ≡ false = ap p id ∙ changed in
        let whole : group ps k d.rows old.values ≡ ids_at m (filter p' c.xs) ++ ids_at m (filter p' c.ys) =
        ap (filter p) by ∙ filter_ids (id_at m) p (as_ ++ r ∷ bs)
        ∙ ap (ids_at m) (filter_out (λ q. p (id_at m q)) r as_ bs own_ ∙ ap (filter (λ q. p (id_at m q))) c.parts ∙ alike)
        ∙ ids_append (id_at m) (filter p' c.xs) (filter p' c.ys) in
        let beside = meets_between ids m os k was.stamp was.link p' c.xs c.ys (group ps k d.rows old.values) meets_ whole left right l has c.below c.above in
        (c.xs, c.ys, c.parts, c.below, c.above, beside.0, beside.1)

    -- In any index

    abbrev Meets : ℕ → Index → Structure → Option OldPlace → Type 0
    Meets k i x o = PlaceMeets k d.rows now old.values o (order_of i.kind i.parts (own_list m x))

    place_in : (k : ℕ) (i : Index) (x y : Structure) (rs us : List Ref) → Now s ids m xs next arrivals is k i x y rs us
        → (was : OldPlace) → place k ≡ Some was → Meets k i x (Some was)
        → (as_ bs : List Ref) → rs ≡ as_ ++ r ∷ bs → AllByRecursion (IsLiveRef ids m) (as_ ++ bs)
        → Lacks e (ids_at m (as_ ++ bs)) → HasOldPlaceFor x m v (to_place was) (as_ ++ bs)
    place_in k i (Sorted t) y rs us h was is_ met as_ bs parts live others =
        let slot : t.slot ≡ k = h.0.slot in
        let same : t.order.parts ≡ i.parts = h.0.for_.1 in
        let plan_is : get_or os k ById ≡ sorted_order i.parts = h.1.plan_is ∙ sorted_parts i.kind i.parts [] h.0.for_.0 in
        subst (λ w. NoneAre (side_of_value (stored_order t.order.parts) m w v was.stamp) Equal (as_ ++ bs)) (sym slot)
        (none_are t.order.parts k (as_ ++ bs) live others (λ some. ap has_stamps plan_is ∙ has_sorted i.parts (λ none_. some (same ∙ none_))) h.1.few was is_)
    place_in k i (Hashed c) y rs us h was is_ met as_ bs parts live others =
        let slot : c.slot ≡ k = h.0.slot in
        let same : c.keys.parts ≡ i.parts = h.0.for_.1 in
        let by : ids_by_stamp k d.rows ≡ ids_at m rs = hashed_ids s ids m xs next arrivals is k i c y rs us h in
        let climb : Climb (stamp_at m k) rs = hashed_climb s ids m xs next arrivals is k i c y rs us h in
        let has : has_stamps (get_or os k ById) ≡ true = ap has_stamps (hashed_plan s ids m xs next arrivals is k i c y rs us h) in
        let met' : PlaceMeets k d.rows now old.values (Some was) (ByHash i.parts) = subst
        (PlaceMeets k d.rows now old.values (Some was)) (hashed_order i.kind i.parts (own_list m (Hashed c)) h.0.for_.0) met in
        let got : ByStamp i.parts k was (as_ ++ bs) =
        in_chains k i.parts as_ bs (by ∙ ap (ids_at m) parts) live others
        (subst (Climb (stamp_at m k)) parts climb) h.1.few has was is_ met'.0 met'.1 in
        let it : ByStamp c.keys.parts k was (as_ ++ bs) = subst (λ w. ByStamp w k was (as_ ++ bs)) (sym same) got in
        record {
          xs = it.0;
          ys = it.1;
          parts = it.2;
          below = subst (λ w. AllBelow (stamp_at m w) was.stamp it.0) (sym slot) it.3;
          above = subst (λ w. AllAbove (stamp_at m w) was.stamp it.1) (sym slot) it.4;
          back_is = it.5;
          forth_is = it.6;
        }
    place_in k i (Sequenced q) y rs us h was is_ met as_ bs parts live others =
        let seq : is_sequenced i.kind ≡ true = h.0.for_ in
        false≢true (ap has_stamps (sym (sequenced_order i.kind i.parts (own_list m (Sequenced q)) seq))
        ∙ placed k d.rows now old.values was (order_of i.kind i.parts (own_list m (Sequenced q))) met)

    -- a key that is the same
    same_key : (k : ℕ) (i : Index) (x y : Structure) (rs us : List Ref) → Now s ids m xs next arrivals is k i x y rs us → Meets k i x None → KeepsKey x m r v
    same_key k i (Sorted t) y rs us h met w w_is =
        let own_ : w ≡ mine.value = (let both : Some w ≡ Some mine.value = sym w_is ∙ mine.is in cc) in
        let order_is : order_of i.kind i.parts (own_list m (Sorted t)) ≡ sorted_order i.parts = sorted_parts i.kind i.parts [] h.0.for_.0 in
        let met' : is_eq (compare_key (parts_of (sorted_order i.parts)) old.values now) ≡ true =
        subst (λ o. is_eq (compare_key (parts_of o) old.values now) ≡ true) order_is met in
        ap (λ q. stored_order t.order.parts q v) own_ ∙ ap (λ ps. stored_order ps mine.value v) h.0.for_.1 ∙ sorted_same i.parts met'
      where
        sorted_same : (ps : List KeyPart) → is_eq (compare_key (parts_of (sorted_order ps)) old.values now) ≡ true → stored_order ps mine.value v ≡ Equal
        sorted_same [] met_ = same_ids mine.value v mine.id
        sorted_same (p ∷ ps) met_ = ap (λ q. compare_key (p ∷ ps) q old.values) (sym now_is) ∙ equal_back (p ∷ ps) old.values now met_
    same_key k i (Hashed c) y rs us h met w w_is =
        let own_ : w ≡ mine.value = (let both : Some w ≡ Some mine.value = sym w_is ∙ mine.is in cc) in
        let order_is : order_of i.kind i.parts (own_list m (Hashed c)) ≡ ByHash i.parts = hashed_order i.kind i.parts (own_list m (Hashed c)) h.0.for_.0 in
        let met' : is_eq (compare_key i.parts old.values now) ≡ true = subst (λ o. is_eq (compare_key (parts_of o) old.values now) ≡ true) order_is met in
        ap (λ (q : Stored). compare_key c.keys.parts q.row old.values) own_ ∙ ap (λ ps. compare_key ps mine.value.row old.values) h.0.for_.1
        ∙ ap (λ q. compare_key i.parts q old.values) (sym now_is) ∙ equal_back i.parts old.values now met'
    same_key k i (Sequenced q) y rs us h met w w_is = refl

    one_back : (k : ℕ) (i : Index) (x y : Structure) (rs us : List Ref) → Now s ids m xs next arrivals is k i x y rs us
        → (o : Option OldPlace) → place k ≡ o → Meets k i x o → CanMoveBackTo (option_map to_place o) x m r v rs
    one_back k i x y rs us h None is_ met = same_key k i x y rs us h met
    one_back k i x y rs us h (Some was) is_ met =
        let w = holds ids m e r rs there h.0.live in
        let whole : AreLive ids m (w.xs ++ r ∷ w.ys) = subst (AreLive ids m) w.parts h.0.live in
        let behind : AllByRecursion (IsLiveRef ids m) (r ∷ w.ys) = all_right (IsLiveRef ids m) w.xs (r ∷ w.ys) whole.rows in
        let live : AllByRecursion (IsLiveRef ids m) (w.xs ++ w.ys) = all_append (IsLiveRef ids m)
        w.xs w.ys (all_left (IsLiveRef ids m) w.xs (r ∷ w.ys) whole.rows) behind.1 in
        record {
          xs = w.xs;
          ys = w.ys;
          parts = w.parts;
          few = let l : length rs ≤ len ids = no_longer ids m rs h.0.live in let f : len ids ≤ 2 ^ 31 = is.few in omega arith;
          place = place_in k i x y rs us h was is_ met w.xs w.ys w.parts live (lacks_middle ids m e r w.xs w.ys id there whole);
        }

    one_can : (k : ℕ) (i : Index) (x y : Structure) (rs us : List Ref) → Now s ids m xs next arrivals is k i x y rs us
        → CanMoveBackTo (given_at (map (option_map to_place) old.places) k) x m r v rs
    one_can k i x y rs us h = subst (λ o. CanMoveBackTo o x m r v rs) (sym (given_is old.places k))
        (one_back k i x y rs us h (place k) refl (meets k i x y rs us h))

    all_can : {k : ℕ} {js : List Index} {us vs : List Structure} {rss uss : List (List Ref)}
        → Every (Now s ids m xs next arrivals is) k js us vs rss uss → AllCan (returning_to (map (option_map to_place) old.places) r v) us k m rss
    all_can none = tt
    all_can (one {s = k} {i = i} {x = x} {y = y} {rs = rs} {us = us} h rest) = (one_can k i x y rs us h, all_can rest)

    -- it may move back in every index
    pub can_move_back : AllCan (returning_to (map (option_map to_place) old.places) r v) xs 0 m is.rss
    can_move_back = all_can (standing s ids m xs next arrivals is)
