-- The places that a row had, as its structures answer them, are those that the data say.
-- Cited by `MultiIndex::old_places`, `ImagingLemmas` and `PutCallLemmas`.
use Rattle.std.proofs.Common.{◌≡◌, ℕ, ◌+◌, ◌^◌, ◌<◌, ◌≤◌, zero, suc, Bool, true, false, cond, not, List, []}
use Rattle.std.proofs.Common.{◌∷◌, ◌++◌, map, take, get_or, length, slice_get, refl, ap, sym, ◌∙◌, subst, arith}
use Rattle.std.specs.Option.{option_map}
use Rattle.std.specs.Ordering.{nat_cmp, is_eq}
use Rattle.std.specs.FinMap.{FinMap, get}
use Rattle.std.proofs.lemmas.Bool.{false≢true}
use Rattle.std.proofs.lemmas.List.{map-append, take_more}
use Rattle.std.proofs.Math.Seq.{take-length}
use Rattle.std.specs.declared.option.Option.{Option}
use Rattle.std.specs.declared.option.Option.TheVariants.{None, Some}
use Rattle.mi_value.specs.declared.value.Value.{Value}
use Rattle.mi_value.specs.declared.compare.KeyPart.{KeyPart}
use Rattle.mi_value.specs.Order.{compare_key}
use Rattle.mi_catalog.specs.declared.index.Index.{Index}
use Rattle.mi_catalog.specs.declared.index.IndexKind.TheVariants.{Hashed as Hashed_}
use Rattle.mi_catalog.specs.Shape.{Shape, index_at}
use Rattle.mi_node.specs.Pool.{Pooled, value_of, link_of}
use Rattle.mi_node.specs.Refs.{Ref}
use Rattle.mi_chain.specs.Keying.{stamp_at}
use Rattle.mi_order.specs.declared.stored.Stored.{Stored}
use Rattle.mi_node.specs.declared.old_place.OldPlace.{OldPlace as Place}
use Rattle.mi_index.specs.declared.structure.Structure.{Structure}
use Rattle.mi_index.specs.declared.structure.Structure.TheVariants.{Sorted, Hashed, Sequenced}
use Rattle.mi_index.specs.Standing.{Stands, Climb}
use Rattle.mi_index.specs.Places.{mark_at, IsOneOf as Holds}
use Rattle.mi_index.specs.Looks.{IsPlaceOf}
use Rattle.mi_container.specs.Data.{Content, Node, Order, Data, has_stamps, parts_of, content_in, content_of}
use Rattle.mi_container.specs.Data.{stamp_of, ids_by_stamp, KindFits, KindsFit, StampFits, StampsFit}
use Rattle.mi_container.specs.Data.Order.{ById, ByKey, ByHash, Listed}
use Rattle.mi_container.specs.Changes.{sorted_order, link_in}
use Rattle.mi_container.specs.Inverse.{OldPlace, old_place, old_places}
use Rattle.mi_container.specs.Backs.{place_seen}
use Rattle.mi_ids.specs.declared.entry.IdEntry.{IdEntry}
use Rattle.mi_multi.specs.Physical.{stored_id, record_in, plan, stamps_in, node_in}
use Rattle.mi_multi.specs.Multi.{id_at, ids_at, own_list, own_lists, AreLive, IsMulti, plain_of}
use Rattle.mi_multi.specs.Changed.{is_changed, changed_keys}
use Rattle.mi_multi.proofs.ChangedLemmas.{mark_of}
use Rattle.mi_multi.proofs.EveryIndexLemmas.{sorted_parts, hashed_order, has_plan, length_orders}
use Rattle.mi_multi.proofs.LiveNodeLemmas.{holds, id_of}
use Rattle.mi_multi.proofs.StampLemmas.{stamp_row, by_stamp_is}
use Rattle.mi_multi.proofs.NeighbourLemmas.{link_hashed}
use Rattle.mi_multi.proofs.IndexNumberLemmas.{Numbered, numbered}
use Rattle.mi_multi.proofs.NewRecordLemmas.{stays, sequenced_stays, row_here, content_here, Marked}

-- The parts of an index are those of its order

kind_parts : (i : Index) (o : Order) → KindFits i o → parts_of o ≡ i.parts
kind_parts i ById f = sym f.1
kind_parts i (ByKey ps) f = sym f.1
kind_parts i (ByHash ps) f = sym f.1
kind_parts i (Listed l) f = sym f.1

pub parts_at : (is : List Index) (os : List Order) → KindsFit is os → (k : ℕ) (none : Index)
    → k < length is → parts_of (get_or os k ById) ≡ (get_or is k none).parts
parts_at [] os f k none l = absurd (omega arith)
parts_at (i ∷ is) [] f k none l = absurd f
parts_at (i ∷ is) (o ∷ os) f zero none l = kind_parts i o f.0
parts_at (i ∷ is) (o ∷ os) f (suc k) none l = parts_at is os f.1 k none (omega arith)

changed_has : (o : Order) (a b : List Value) → stays o a b ≡ false → has_stamps o ≡ true
changed_has ById a b h = absurd (false≢true (sym h))
changed_has (ByKey ps) a b h = refl
changed_has (ByHash ps) a b h = refl
changed_has (Listed l) a b h = absurd (false≢true (sym h))

-- no stamp is later than the next arrival
now_stamp : (now : ℕ) (o : Order) (a : ℕ) → StampFits now o a → a ≤ now
now_stamp now ById a f = omega (arith, f)
now_stamp now (ByKey ps) a f = omega (arith, f)
now_stamp now (ByHash ps) a f = omega (arith, f)
now_stamp now (Listed l) a f = omega (arith, f)

now_stamps : (now : ℕ) (os : List Order) (stamps : List ℕ) → StampsFit now os stamps → (k : ℕ) → get_or stamps k 0 ≤ now
now_stamps now [] [] f k = omega arith
now_stamps now [] (a ∷ stamps) f k = absurd f
now_stamps now (o ∷ os) [] f k = absurd f
now_stamps now (o ∷ os) (a ∷ stamps) f zero = now_stamp now o a f.0
now_stamps now (o ∷ os) (a ∷ stamps) f (suc k) = now_stamps now os stamps f.1 k

unlinked : (x : ℕ) (rws : List (ℕ × Node)) (e : ℕ) (ps : List KeyPart) → link_in x rws e (sorted_order ps) ≡ record { back = None; forth = None }
unlinked x rws e [] = refl
unlinked x rws e (p ∷ ps) = refl

module _ (s : Shape) (ids : FinMap nat_cmp IdEntry) (m : Pooled Stored) (xs : List Structure)
    (next arrivals : ℕ) (is : IsMulti s ids m xs next arrivals) (e : ℕ) (r : Ref)
    (there : get ids e ≡ Some (record { node = r; live = true })) where
  abbrev os : List Order
  os = plan s.indexes

  abbrev d : Data
  d = plain_of s ids m xs next arrivals

  id : id_at m r ≡ e
  id = id_of ids m e (record { node = r; live = true }) (is.held e (record { node = r; live = true }) there)

  module _ (k : ℕ) (y : Structure) (w : Numbered s ids m xs k y) where
    -- it stands in the index
    pub has_it : Holds r w.stood.rs
    has_it = holds ids m e r w.stood.rs there w.stood.live

    pub stands_with : Stands y m (has_it.xs ++ r ∷ has_it.ys)
    stands_with = subst (Stands y m) has_it.parts w.stood.stands

    stamp_is : (a b : List Value) → stays (get_or d.orders k ById) a b ≡ false → stamp_of d.rows k e ≡ (link_of m r.name k).tag.stamp
    stamp_is a b h =
        ap (stamp_of d.rows k) (sym id)
        ∙ stamp_row ids m os k r (ap (get ids) id ∙ there) w.few_plan (sym (has_plan s.indexes (own_lists m xs) k) ∙ changed_has (get_or d.orders k ById) a b h)

  -- what is kept of its place where its key changes
  pub place_is : (k : ℕ) (y : Structure) (w : Numbered s ids m xs k y) (p : Place)
      → ((as_ bs : List Ref) → Stands y m (as_ ++ r ∷ bs) → IsPlaceOf y m r p as_ bs) → (a b : List Value) → stays (get_or d.orders k ById) a b ≡ false
      → place_seen p ≡ record { stamp = stamp_of d.rows k e; link = link_in k d.rows e (get_or d.orders k ById) }
  place_is k (Sorted t) w p given a b h =
      let h_ = has_it k (Sorted t) w in
      let its = given h_.xs h_.ys (stands_with k (Sorted t) w) in
      let slot : t.slot ≡ k = w.stood.slot in
      let stamp : p.stamp ≡ stamp_of d.rows k e = its.stamp ∙ ap (λ z. stamp_at m z r) slot ∙ sym (stamp_is k (Sorted t) w a b h) in
      let link : link_in k d.rows e (get_or d.orders k ById) ≡ record { back = p.back; forth = p.forth } =
      ap (link_in k d.rows e) (w.ordered ∙ sorted_parts (index_at s k).kind (index_at s k).parts (own_list m (Sorted t)) w.stood.for_.0)
      ∙ unlinked k d.rows e (index_at s k).parts
      ∙ (λ j. record { back = sym its.alone.0 j; forth = sym its.alone.1 j }) in
      (λ j. record { stamp = stamp j; link = sym link j })
  place_is k (Hashed c) w p given a b h =
      let h_ = has_it k (Hashed c) w in
      let its = given h_.xs h_.ys (stands_with k (Hashed c) w) in
      let slot : c.slot ≡ k = w.stood.slot in
      let parts : c.keys.parts ≡ (index_at s k).parts = w.stood.for_.1 in
      let stamp : p.stamp ≡ stamp_of d.rows k e = its.stamp ∙ ap (λ z. stamp_at m z r) slot ∙ sym (stamp_is k (Hashed c) w a b h) in
      let order_is : get_or d.orders k ById ≡ ByHash c.keys.parts = w.ordered
      ∙ hashed_order (index_at s k).kind (index_at s k).parts (own_list m (Hashed c)) w.stood.for_.0 ∙ ap ByHash (sym parts) in
      let plan_is : get_or os k ById ≡ ByHash c.keys.parts = w.planned
      ∙ hashed_order (index_at s k).kind (index_at s k).parts [] w.stood.for_.0 ∙ ap ByHash (sym parts) in
      let climb : Climb (stamp_at m k) w.stood.rs = subst (λ z. Climb (stamp_at m z) w.stood.rs) slot w.stood.stands.1 in
      let by : ids_by_stamp k d.rows ≡ ids_at m w.stood.rs = by_stamp_is s d ids m os k c.keys.parts
      w.stood.rs is.is_data refl w.few_orders w.few_plan order_is plan_is w.stood.live climb in
      let link : link_in k d.rows e (get_or d.orders k ById) ≡ record { back = p.back; forth = p.forth } =
      ap (link_in k d.rows e) order_is
      ∙ link_hashed ids m m os is.held (λ z. refl) e r there h_.xs h_.ys
      (subst (AreLive ids m) h_.parts w.stood.live) c.keys k (by ∙ ap (ids_at m) h_.parts)
      ∙ (λ j. record { back = sym its.beside.0 j; forth = sym its.beside.1 j }) in
      (λ j. record { stamp = stamp j; link = sym link j })
  place_is k (Sequenced l) w p given a b h = absurd
      (false≢true (sym h ∙ sequenced_stays (index_at s k) (own_list m (Sequenced l)) (get_or d.orders k ById) a b w.stood.for_ w.ordered))

  -- the record that it has
  pub values_here : (v : Stored) → value_of m r.name ≡ Some v → (content_of d.rows e).values ≡ v.row
  values_here v v_is =
      ap (λ (c : Content). c.values) (content_here s ids m xs next arrivals is e r there v (ap stored_id (sym v_is) ∙ id)) ∙ ap record_in v_is

  -- the old place in the index of a number
  module _ (k : ℕ) (few : k < length s.indexes) (v : Stored) (v_is : value_of m r.name ≡ Some v) (new : List Value) where
    abbrev old : List Value
    old = (content_of d.rows e).values

    old_is : old ≡ v.row
    old_is = values_here v v_is

    -- keys compare by the parts of the index
    stays_is : (b : Bool) → b ≡ is_eq (compare_key (index_at s k).parts v.row new) → stays (get_or d.orders k ById) old new ≡ b
    stays_is b same =
        let parts : parts_of (get_or d.orders k ById) ≡ (index_at s k).parts = parts_at s.indexes d.orders is.is_data.kinds k _ few in
        (λ j. is_eq (compare_key (parts j) (old_is j) new)) ∙ sym same

    abbrev its_place : Option OldPlace
    its_place = old_place k d.rows e old new (get_or d.orders k ById) (stamp_of d.rows k e)

    pub no_place : true ≡ is_eq (compare_key (index_at s k).parts v.row new) → None ≡ its_place
    no_place same = ap (λ t. cond t None (Some (record { stamp = stamp_of d.rows k e; link = link_in k d.rows e (get_or d.orders k ById) })))
        (sym (stays_is true same))

    -- its stamp is below 2^63
    pub few_stamp : false ≡ is_eq (compare_key (index_at s k).parts v.row new) → (y : Structure) → slice_get xs k ≡ Some y
        → (p : Place) → ((as_ bs : List Ref) → Stands y m (as_ ++ r ∷ bs) → IsPlaceOf y m r p as_ bs)
        → p.stamp < 2 ^ 63
    few_stamp other y at p given =
        let same : p.stamp ≡ stamp_of d.rows k e = ap (λ (q : OldPlace). q.stamp)
        (place_is k y (numbered s ids m xs next arrivals is k y at) p given old new (stays_is false other)) in
        let here = row_here s ids m xs next arrivals is e r there v (ap stored_id (sym v_is) ∙ id) in
        let content : content_of d.rows e ≡ (node_in m os r).content = ap content_in here in
        let stamps = now_stamps arrivals d.orders (node_in m os r).content.stamps (is.is_data.stamped e (node_in m os r) here) k in
        let now : stamp_of d.rows k e ≤ arrivals = subst (λ (c : Content). get_or c.stamps k 0 ≤ arrivals) (sym content) stamps in
        let fit : arrivals ≤ 9223372036854775807 = is.arrivals_fit in
        omega (arith, same, now, fit)

    pub some_place : false ≡ is_eq (compare_key (index_at s k).parts v.row new) → (y : Structure) → slice_get xs k ≡ Some y
        → (p : Place) → ((as_ bs : List Ref) → Stands y m (as_ ++ r ∷ bs) → IsPlaceOf y m r p as_ bs)
        → Some (place_seen p) ≡ its_place
    some_place other y at p given =
        ap Some (place_is k y (numbered s ids m xs next arrivals is k y at) p given old new (stays_is false other))
        ∙ ap (λ t. cond t None (Some (record { stamp = stamp_of d.rows k e; link = link_in k d.rows e (get_or d.orders k ById) }))) (sym (stays_is false other))

-- The places of all indexes

module _ (rws : List (ℕ × Node)) (e : ℕ) (old new : List Value) where
  length_places : (x : ℕ) (os : List Order) (stamps : List ℕ) → length stamps ≡ length os → length (old_places x rws e old new os stamps) ≡ length os
  length_places x [] stamps long = refl
  length_places x (o ∷ os) [] long = absurd (let bad : zero ≡ suc (length os) = long in omega arith)
  length_places x (o ∷ os) (a ∷ stamps) long = ap suc (length_places (suc x) os stamps (let h : suc (length stamps) ≡ suc (length os) = long in omega arith))

  place_from : (x : ℕ) (os : List Order) (stamps : List ℕ) (k : ℕ) → k < length os → length stamps ≡ length os
      → get_or (old_places x rws e old new os stamps) k None ≡ old_place (x + k) rws e old new (get_or os k ById) (get_or stamps k 0)
  place_from x [] stamps k l long = absurd (omega arith)
  place_from x (o ∷ os) [] k l long = absurd (let bad : zero ≡ suc (length os) = long in omega arith)
  place_from x (o ∷ os) (a ∷ stamps) zero l long = let here : x ≡ x + 0 = omega arith in ap (λ z. old_place z rws e old new o a) here
  place_from x (o ∷ os) (a ∷ stamps) (suc k) l long =
      let next : suc x + k ≡ x + suc k = omega arith in
      place_from (suc x) os stamps k (omega arith) (let h : suc (length stamps) ≡ suc (length os) = long in omega arith)
      ∙ ap (λ z. old_place z rws e old new (get_or os k ById) (get_or stamps k 0)) next

  -- the one of a number
  pub place_of : (os : List Order) (stamps : List ℕ) (k : ℕ) → k < length os → length stamps ≡ length os
      → get_or (old_places 0 rws e old new os stamps) k None ≡ old_place k rws e old new (get_or os k ById) (get_or stamps k 0)
  place_of os stamps k l long =
      let here : 0 + k ≡ k = omega arith in place_from 0 os stamps k l long ∙ ap (λ z. old_place z rws e old new (get_or os k ById) (get_or stamps k 0)) here

  -- those before a number, and the one of that number
  pub places_more : {A : Type 0} (f : A → OldPlace) (ps qs : List (Option A)) (p : Option A) (os : List Order) (stamps : List ℕ) (k : ℕ)
      → length stamps ≡ length os → k < length os → map (option_map f) ps ≡ take k (old_places 0 rws e old new os stamps)
      → option_map f p ≡ old_place k rws e old new (get_or os k ById) (get_or stamps k 0)
      → qs ≡ ps ++ p ∷ [] → map (option_map f) qs ≡ take (k + 1) (old_places 0 rws e old new os stamps)
  places_more f ps qs p os stamps k long l before one_ same =
      let all : length (old_places 0 rws e old new os stamps) ≡ length os = length_places 0 os stamps long in
      let last : option_map f p ≡ get_or (old_places 0 rws e old new os stamps) k None = one_ ∙ sym (place_of os stamps k l long) in
      ap (map (option_map f)) same ∙ map-append (option_map f) ps (p ∷ []) ∙ (λ i. before i ++ last i ∷ [])
      ∙ sym (take_more (old_places 0 rws e old new os stamps) k None (omega arith))

  pub places_all : (os : List Order) (stamps : List ℕ) (k : ℕ) → length stamps ≡ length os → k ≡ length os
      → take k (old_places 0 rws e old new os stamps) ≡ old_places 0 rws e old new os stamps
  places_all os stamps k long end = ap (λ n. take n (old_places 0 rws e old new os stamps)) (end ∙ sym (length_places 0 os stamps long))
      ∙ take-length (old_places 0 rws e old new os stamps)

pub length_stamps : (m : Pooled Stored) (q y : ℕ) (os : List Order) → length (stamps_in m q y os) ≡ length os
length_stamps m q y [] = refl
length_stamps m q y (o ∷ os) = ap suc (length_stamps m q (suc y) os)

-- Marks

module _ (s : Shape) (ids : FinMap nat_cmp IdEntry) (m : Pooled Stored) (xs : List Structure)
    (next arrivals : ℕ) (is : IsMulti s ids m xs next arrivals) (e : ℕ) (r : Ref)
    (there : get ids e ≡ Some (record { node = r; live = true })) (v : Stored) (named : v.id ≡ e) where
  abbrev plain : Data
  plain = plain_of s ids m xs next arrivals

  abbrev its : Content
  its = content_of plain.rows e

  pub long_stamps : length its.stamps ≡ length plain.orders
  long_stamps =
      ap (λ (c : Content). length c.stamps) (content_here s ids m xs next arrivals is e r there v named) ∙ length_stamps m r.name 0 (plan s.indexes)
      ∙ length_orders s.indexes [] ∙ sym (length_orders s.indexes (own_lists m xs))

  -- the marks are those of the indexes in which its key changes
  pub marked_by : (marks : List Bool) → marks ≡ changed_keys s.indexes its.values v.row
      → Marked s ids m xs next arrivals is e r there v named marks
  marked_by marks same k l =
      let all : length plain.orders ≡ length s.indexes = length_orders s.indexes (own_lists m xs) in
      let few : k < length s.indexes = omega (arith, l, all) in
      let none : Index = record { name = []; kind = Hashed_; «unique» = false; parts = [] } in
      ap (λ bs. mark_at bs k) same ∙ mark_of s.indexes its.values v.row k none few
      ∙ ap (λ ps. is_changed ps its.values v.row) (sym (parts_at s.indexes plain.orders is.is_data.kinds k none few))
      ∙ ap (λ (c : Content). not (stays (get_or plain.orders k ById) c.values v.row)) (content_here s ids m xs next arrivals is e r there v named)
