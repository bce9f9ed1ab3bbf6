-- A row has come in: what the pool and the structures say then are the data with it, and all stands again.
-- Cited by `MultiIndex::insert_accepted`, `NewRecordLemmas` and `RestampLemmas`.
use Rattle.std.proofs.Common.{◌≡◌, ◌≢◌, ℕ, suc, ◌+◌, ◌^◌, ◌<◌, ◌≤◌, true, false, cond, inl, inr, List}
use Rattle.std.proofs.Common.{[], ◌∷◌, ◌++◌, map, get_or, refl, ap, sym, ◌∙◌, subst, arith}
use Rattle.std.specs.Prelude.{◌==◌}
use Rattle.std.specs.List.{AllByRecursion}
use Rattle.std.specs.Option.{option_map, option_and_then, is_some}
use Rattle.std.specs.Ordering.{nat_cmp}
use Rattle.std.specs.FinMap.{FinMap, get, insert, entries, len, len-insert}
use Rattle.std.proofs.lemmas.Cmp.{nat_cmp_total}
use Rattle.std.proofs.lemmas.Bool.{false≢true}
use Rattle.std.proofs.lemmas.Bool.Decides.{eqb_tells}
use Rattle.std.specs.declared.option.Option.{Option}
use Rattle.std.specs.declared.option.Option.TheVariants.{None, Some}
use Rattle.mi_value.specs.declared.limits.TheConstants.{LAST_COUNT}
use Rattle.mi_value.specs.declared.compare.KeyPart.{KeyPart}
use Rattle.mi_catalog.specs.declared.index.Index.{Index}
use Rattle.mi_catalog.specs.Kinds.{is_sequenced}
use Rattle.mi_catalog.specs.Shape.{Shape}
use Rattle.mi_model.specs.Table.{times}
use Rattle.mi_model.specs.Change.{stand, stand_before}
use Rattle.mi_model.specs.Conflict.{conflict}
use Rattle.mi_model.proofs.ViewLaws.{Lacks}
use Rattle.mi_node.specs.Pool.{Pooled, value_of, link_of, ref_of, IsHeld}
use Rattle.mi_node.specs.Refs.{Ref, first_of}
use Rattle.mi_node.specs.declared.link.Tag.{Tag}
use Rattle.mi_order.specs.declared.stored.Stored.{Stored}
use Rattle.mi_index.specs.declared.structure.Structure.{Structure}
use Rattle.mi_index.specs.declared.structure.Structure.TheVariants.{Sorted, Hashed, Sequenced}
use Rattle.mi_index.specs.Standing.{slot_in}
use Rattle.mi_index.specs.Places.{before_at, IsWith, HasStamp}
use Rattle.mi_index.specs.Pass.{AllLike}
use Rattle.mi_index.specs.Inserting.{come_in as comes, IsInserted}
use Rattle.mi_container.specs.Data.{Node, Data, Order, has_stamps, node_of, IsData, as_table}
use Rattle.mi_container.specs.Data.Order.{ById}
use Rattle.mi_container.specs.Changes.{sorted_order, new_stamp, new_node, inserted, orders_with}
use Rattle.mi_container.specs.Inverse.{id_named}
use Rattle.mi_container.specs.Run.{PlaceFits}
use Rattle.mi_container.specs.Run.Change.{Insert}
use Rattle.mi_container.proofs.PairLemmas.{none_some, some_is, is_other, head_is, head_isnt, is_itself}
use Rattle.mi_container.proofs.SequenceLemmas.{lacks_left}
use Rattle.mi_container.proofs.InvariantLemmas.{rows_climb}
use Rattle.mi_container.proofs.LawLemmas.{change_is_tables}
use Rattle.mi_ids.specs.declared.entry.IdEntry.{IdEntry}
use Rattle.mi_multi.specs.Physical.{stored_id, record_in, stamp_in, stamps_in, order_of, orders_of, plan, node_in, live_in, kept_in, picked}
use Rattle.mi_multi.specs.Alike.{SaysSame, IsAltered, SeqBy}
use Rattle.mi_multi.specs.Multi.{id_at, ids_at, own_list, own_lists, is_live, IsFor, AreLive, HasNode, IsMulti, plain_of}
use Rattle.mi_multi.proofs.PickLemmas.{Above, Up, up_of_climbs}
use Rattle.mi_multi.proofs.RowLemmas.{picked_pushed, picked_still, get_here, get_beside}
use Rattle.mi_multi.proofs.ListLemmas.{itself, LacksIf, stand_there, times_middle}
use Rattle.mi_multi.proofs.SameNodeLemmas.{live_alike, kept_alike}
use Rattle.mi_multi.proofs.OrderLemmas.{orders_map, orders_set}
use Rattle.mi_multi.proofs.EveryIndexLemmas.{Turned, Every, At, at, every, all_after, all_for, seq_by, sorted_parts, hashed_order, at_stamps}
use Rattle.mi_multi.proofs.EveryIndexLemmas.{sequenced_order, sorted_not_sequenced, hashed_not_sequenced, one, none}
use Rattle.mi_multi.proofs.LiveNodeLemmas.{live_rows_with, IsLiveRef, lacks_middle, id_of, out_of_all, all_left, all_right, once_more}
use Rattle.mi_multi.proofs.NeighbourLemmas.{ids_append}
use Rattle.mi_multi.proofs.SettleLemmas.{entry_live}
use Rattle.mi_multi.proofs.InsertLemmas.{IsBefore, fresh, not_next}

above_absent : (e : ℕ) (rows : List (ℕ × Node)) → Above e rows → node_of rows e ≡ None
above_absent e [] all = refl
above_absent e (r ∷ rows) all = head_isnt e r rows (is_other r.0 e (λ same. let l : e < r.0 = all.0 in absurd (omega arith))) ∙ above_absent e rows all.1

-- no row has a node of that name
not_named : (name : ℕ) (rows : List (ℕ × Node)) → Up rows → ((e : ℕ) (n : Node) → node_of rows e ≡ Some n → n.at.name ≢ name) → id_named name rows ≡ None
not_named name [] up each = refl
not_named name (r ∷ rows) up each =
    ap (λ t. cond t (Some r.0) (id_named name rows)) (is_other r.1.at.name name (each r.0 r.1 (head_is r.0 r rows (is_itself r.0))))
    ∙ not_named name rows up.1
    (λ e n there. elim (eqb_tells r.0 e) [
      | inl same ↦ absurd (none_some (sym (above_absent r.0 rows up.0) ∙ ap (node_of rows) same.1 ∙ there))
      | inr isnt ↦ each e n (head_isnt e r rows isnt.0 ∙ there)
    ])

-- Stamps where a node has come in

pub stamp_others : (i : Index) (x : Structure) (m n : Pooled Stored) (r : Ref) (l : List ℕ) (stamp : ℕ)
    → IsFor i x → HasStamp x m n r stamp → has_stamps (order_of i.kind i.parts l) ≡ true
    → (k : ℕ) → (r.name == k) ≡ false → (link_of n k (slot_in x)).tag.stamp ≡ (link_of m k (slot_in x)).tag.stamp
stamp_others i (Sorted t) m n r l stamp f h has k ne = ap (λ (w : Tag). w.stamp) (h.1 k ne)
stamp_others i (Hashed c) m n r l stamp f h has k ne = ap (λ (w : Tag). w.stamp) (h.1 k ne)
stamp_others i (Sequenced q) m n r l stamp f h has k ne = absurd (false≢true (sym (ap has_stamps (sequenced_order i.kind i.parts l f)) ∙ has))

sorted_new : (n : Pooled Stored) (k x now : ℕ) (ps : List KeyPart) → (link_of n k x).tag.stamp ≡ now
    → stamp_in n k x (sorted_order ps) ≡ new_stamp now (sorted_order ps)
sorted_new n k x now [] is = refl
sorted_new n k x now (p ∷ ps) is = is

pub one_new : (i : Index) (x : Structure) (m n : Pooled Stored) (r : Ref) (k now : ℕ) → IsFor i x → slot_in x ≡ k → HasStamp x m n r now
    → stamp_in n r.name k (order_of i.kind i.parts []) ≡ new_stamp now (order_of i.kind i.parts (own_list m x))
one_new i (Sorted t) m n r k now f slot h =
    ap (stamp_in n r.name k) (sorted_parts i.kind i.parts [] f.0)
    ∙ sorted_new n r.name k now i.parts (ap (λ w. (link_of n r.name w).tag.stamp) (sym slot) ∙ h.0)
    ∙ ap (new_stamp now) (sym (sorted_parts i.kind i.parts [] f.0))
one_new i (Hashed c) m n r k now f slot h =
    ap (stamp_in n r.name k) (hashed_order i.kind i.parts [] f.0) ∙ ap (λ w. (link_of n r.name w).tag.stamp) (sym slot) ∙ h.0
    ∙ ap (new_stamp now) (sym (hashed_order i.kind i.parts [] f.0))
one_new i (Sequenced l) m n r k now f slot h =
    ap (stamp_in n r.name k) (sequenced_order i.kind i.parts [] f) ∙ ap (new_stamp now) (sym (sequenced_order i.kind i.parts (own_list m (Sequenced l)) f))

module _ (s : Shape) (ids : FinMap nat_cmp IdEntry) (m n : Pooled Stored) (xs ys : List Structure)
    (next arrivals : ℕ) (is : IsMulti s ids m xs next arrivals) (v : Stored) (new : v.id ≡ next)
    (at_ : Option (ℕ × ℕ)) (before : Option (ℕ × Ref)) (place : IsBefore ids at_ before) (r : Ref)
    (like : AllLike xs ys) (came : IsInserted r v arrivals before xs ys m n is.rss) where
  abbrev os : List Order
  os = plan s.indexes

  abbrev d : Data
  d = plain_of s ids m xs next arrivals

  abbrev Q : ℕ → Structure → Pooled Stored → Pooled Stored → List Ref → List Ref → Type 0
  Q = comes r arrivals before

  abbrev new_ids : FinMap nat_cmp IdEntry
  new_ids = insert ids next (record { node = r; live = true })

  turns : Every (Turned Q ids m n) 0 s.indexes xs ys is.rss came.uss
  turns = every Q ids m n 0 s.indexes xs ys is.rss came.uss is.kinds like is.stand came.stand came.done is.live

  -- every node that is held has another name
  apart : (q : Ref) → IsHeld m q → (r.name == q.name) ≡ false
  apart q held = is_other r.name q.name (λ same. none_some (sym came.free ∙ ap (ref_of m) same ∙ held))

  value_still : (q : Ref) → IsHeld m q → value_of n q.name ≡ value_of m q.name
  value_still q held = came.values q.name ∙ ap (λ b. cond b (Some v) (value_of m q.name)) (apart q held)

  value_here : value_of n r.name ≡ Some v
  value_here = came.values r.name ∙ ap (λ b. cond b (Some v) (value_of m r.name)) (is_itself r.name)

  id_here : id_at n r ≡ next
  id_here = ap stored_id value_here ∙ new

  held_live : (q : Ref) → IsLiveRef ids m q → IsHeld m q
  held_live q live = (is.held (id_at m q) (record { node = q; live = true }) live).held

  id_still : (q : Ref) → IsLiveRef ids m q → id_at n q ≡ id_at m q
  id_still q live = ap stored_id (value_still q (held_live q live))

  ids_still : (qs : List Ref) → AllByRecursion (IsLiveRef ids m) qs → ids_at n qs ≡ ids_at m qs
  ids_still [] all = refl
  ids_still (q ∷ qs) all = (λ i. id_still q all.0 i ∷ ids_still qs all.1 i)

  -- Rows

  stamp_of_slot : (x : ℕ) (o : Order) → At (Turned Q ids m n) x o → has_stamps o ≡ true
      → (k : ℕ) → (r.name == k) ≡ false → (link_of n k x).tag.stamp ≡ (link_of m k x).tag.stamp
  stamp_of_slot x o (at i a c rs us l t is_order) has k ne =
      subst (λ w. (link_of n k w).tag.stamp ≡ (link_of m k w).tag.stamp) t.slot
      (stamp_others i a m n r l arrivals t.for_ t.done.stamped (sym (ap has_stamps is_order) ∙ has) k ne)

  says : (q : Ref) → IsHeld m q → SaysSame os m n q.name
  says q held = record {
    value = value_still q held;
    stamps = λ x has. stamp_of_slot x (get_or os x ById) (at_stamps (Turned Q ids m n) turns x has) has q.name (apart q held);
  }

  turned_false : (a b : ℕ) → (a == b) ≡ false → (b == a) ≡ false
  turned_false a b ne = elim (eqb_tells a b) [ inl same ↦ absurd (false≢true (sym ne ∙ same.0)) | inr isnt ↦ is_other b a (λ same. isnt.1 (sym same)) ]

  altered : IsAltered os ids m n next
  altered = record {
    says = λ q a ne here. says a.node (is.held q a here).held;
    kept = λ q a ne here dead t. came.other_nodes a.node.name t (turned_false r.name a.node.name (apart a.node (is.held q a here).held))
        (out_of_all ids m q a is.rss here dead (is.held q a here) is.live);
  }

  others : (q : ℕ) → q ≢ next → get new_ids q ≡ get ids q
  others q ne = get_beside ids next q (record { node = r; live = true }) ne

  now : get new_ids next ≡ Some (record { node = r; live = true })
  now = get_here ids next (record { node = r; live = true })

  was : get ids next ≡ None
  was = fresh s ids m xs next arrivals is

  stamps_new : {k : ℕ} {js : List Index} {as_ bs : List Structure} {rss uss : List (List Ref)} → Every (Turned Q ids m n) k js as_ bs rss uss
      → stamps_in n r.name k (plan js) ≡ map (new_stamp arrivals) (orders_of js (own_lists m as_))
  stamps_new none = refl
  stamps_new (one {s = k} {i = i} {x = x} {is = js} {xs = as_} t rest) =
      let next_ : k + 1 ≡ suc k = omega arith in
      let tail : stamps_in n r.name (suc k) (plan js) ≡ map (new_stamp arrivals) (orders_of js (own_lists m as_)) =
      subst (λ w. stamps_in n r.name w (plan js) ≡ map (new_stamp arrivals) (orders_of js (own_lists m as_))) next_ (stamps_new rest) in
      (λ j. one_new i x m n r k arrivals t.for_ t.slot t.done.stamped j ∷ tail j)

  node_is : node_in n os r ≡ new_node r v.row d
  node_is =
      let values = value_here in
      let stamps = stamps_new turns in
      (λ i. record { at = r; content = record { values = record_in (values i); stamps = stamps i } })

  rows_with : picked (live_in n os) (entries new_ids) ≡ d.rows ++ (next, new_node r v.row d) ∷ []
  rows_with =
      picked_pushed (live_in m os) (live_in n os) ids new_ids next others (live_alike os ids m n next altered) (new_node r v.row d) (rows_climb s d is.is_data)
      (ap (option_and_then (live_in n os)) now ∙ ap Some node_is)

  kept_still : picked (kept_in n os) (entries new_ids) ≡ d.kept
  kept_still =
      picked_still (kept_in m os) (kept_in n os) ids new_ids next others (kept_alike os ids m n next altered)
      (ap (option_and_then (kept_in n os)) now ∙ sym (ap (option_and_then (kept_in m os)) was))

  -- Orders

  lacks_first : (us vs : List Ref) → AreLive ids m (us ++ vs) → LacksIf (id_at n) (first_of vs None) us
  lacks_first us [] live = tt
  lacks_first us (q ∷ vs) live =
      let here : AllByRecursion (IsLiveRef ids m) (q ∷ vs) = all_right (IsLiveRef ids m) us (q ∷ vs) live.rows in
      let before_ : AllByRecursion (IsLiveRef ids m) us = all_left (IsLiveRef ids m) us (q ∷ vs) live.rows in
      let lacks : Lacks (id_at m q) (ids_at m us) =
      lacks_left (id_at m q) (ids_at m us) (ids_at m vs)
      (subst (Lacks (id_at m q)) (ids_append (id_at m) us vs) (lacks_middle ids m (id_at m q) q us vs refl here.0 live)) in
      subst (λ w. Lacks w (ids_at n us)) (sym (id_still q here.0)) (subst (Lacks (id_at m q)) (sym (ids_still us before_)) lacks)

  first_id : (vs : List Ref) → AllByRecursion (IsLiveRef ids m) vs → option_map (id_at n) (first_of vs None) ≡ option_map (id_at m) (first_of vs None)
  first_id [] all = refl
  first_id (q ∷ vs) all = ap Some (id_still q all.0)

  abbrev moves : ℕ → List ℕ → List ℕ
  moves k = stand (option_map (id_at m) (before_at k before)) next

  ids_with : (k : ℕ) (rs us : List Ref) (w : IsWith r rs us) → AreLive ids m rs → first_of w.ys None ≡ before_at k before → ids_at n us ≡ moves k (ids_at m rs)
  ids_with k rs us w live put =
      let whole : AreLive ids m (w.xs ++ w.ys) = subst (AreLive ids m) w.was live in
      let behind : AllByRecursion (IsLiveRef ids m) w.ys = all_right (IsLiveRef ids m) w.xs w.ys whole.rows in
      ap (ids_at n) w.now
      ∙ sym (stand_there (id_at n) w.xs r w.ys (lacks_first w.xs w.ys whole))
      ∙ (λ i. stand (first_id w.ys behind i) (id_here i) (ids_still (w.xs ++ w.ys) whole.rows i))
      ∙ (λ i. stand (option_map (id_at m) (put i)) next (ids_at m (sym w.was i)))

  step : (k : ℕ) (i : Index) (x y : Structure) (rs us : List Ref) → is_sequenced i.kind ≡ true
      → Turned Q ids m n (0 + k) i x y rs us → ids_at n us ≡ moves k (ids_at m rs)
  step k i (Sequenced l) y rs us seq t =
      let zeroed : 0 + k ≡ k = omega arith in ids_with k rs us t.done.joined t.live (t.done.put ∙ ap (λ w. before_at w before) zeroed)
  step k i (Sorted t) y rs us seq h = absurd (sorted_not_sequenced i.kind h.for_.0 seq)
  step k i (Hashed c) y rs us seq h = absurd (hashed_not_sequenced i.kind h.for_.0 seq)

  by : SeqBy moves s.indexes (own_lists m xs) (own_lists n ys)
  by = seq_by Q ids m n moves turns step

  orders_by : (a : Option (ℕ × ℕ)) (b : Option (ℕ × Ref)) → IsBefore ids a b
      → SeqBy (λ k. stand (option_map (id_at m) (before_at k b)) next) s.indexes (own_lists m xs) (own_lists n ys)
      → orders_of s.indexes (own_lists n ys) ≡ orders_with a next d.orders
  orders_by None None f g = orders_map (stand None next) (λ _. stand None next) s.indexes (own_lists m xs) (own_lists n ys) (λ k. refl) g
  orders_by None (Some b) f g = absurd f
  orders_by (Some p) None f g = absurd f
  orders_by (Some p) (Some b) f g =
      let id : id_at m b.1 ≡ p.1 = id_of ids m p.1 (record { node = b.1; live = true }) (is.held p.1 (record { node = b.1; live = true }) f.1) in
      orders_set (stand None next) (stand_before p.1 next) p.0
      (λ k. stand (option_map (id_at m) (cond (b.0 == k) (Some b.1) None)) next) s.indexes (own_lists m xs) (own_lists n ys)
      (ap (λ t. stand (option_map (id_at m) (cond t (Some b.1) None)) next) (itself f.0) ∙ ap (λ w. stand (Some w) next) id)
      (λ k ne. ap (λ t. stand (option_map (id_at m) (cond t (Some b.1) None)) next) (is_other b.0 k (λ same. ne (sym same ∙ f.0))))
      g

  -- the data after it
  pub come_seen : plain_of s new_ids n ys (next + 1) (arrivals + 1) ≡ inserted at_ r v.row d
  come_seen =
      let rows = rows_with in
      let orders = orders_by at_ before place by in
      let kept = kept_still in
      (λ i. record { rows = rows i; orders = orders i; next = next + 1; arrivals = arrivals + 1; kept = kept i })

  -- no row has that node
  pub unnamed : id_named r.name d.rows ≡ None
  unnamed =
      not_named r.name d.rows (up_of_climbs next d.rows (rows_climb s d is.is_data))
      (λ e q there same.
      let entry = (entry_live ids m os e q there).0 in
      none_some (sym came.free ∙ ap (ref_of m) (sym same) ∙ (is.held e (record { node = q.at; live = true }) entry).held))

  -- Lists

  live_still : (q : Ref) → IsLiveRef ids m q → IsLiveRef new_ids n q
  live_still q live = ap (get new_ids) (id_still q live) ∙ others (id_at m q) (λ same. not_next s ids m xs next arrivals is q live (sym same)) ∙ live

  all_still : (qs : List Ref) → AllByRecursion (IsLiveRef ids m) qs → AllByRecursion (IsLiveRef new_ids n) qs
  all_still [] all = tt
  all_still (q ∷ qs) all = (live_still q all.0, all_still qs all.1)

  each_with : (rs us : List Ref) → AreLive ids m rs → IsWith r rs us → (q : ℕ) → times q (ids_at n us) ≡ cond (is_live (get new_ids q)) 1 0
  each_with rs us live w q =
      let rows_ : AllByRecursion (IsLiveRef ids m) (w.xs ++ w.ys) = subst (AllByRecursion (IsLiveRef ids m)) w.was live.rows in
      let same : times q (ids_at n us) ≡ times q (ids_at n (w.xs ++ r ∷ w.ys)) = ap (λ k. times q (ids_at n k)) w.now in
      let parts : times q (ids_at n (w.xs ++ r ∷ w.ys))
      ≡ cond (id_at n r == q) 1 0 + times q (ids_at n (w.xs ++ w.ys)) = times_middle (id_at n) q w.xs r w.ys in
      let before_ : times q (ids_at n (w.xs ++ w.ys)) ≡ cond (is_live (get ids q)) 1 0 =
      ap (times q) (ids_still (w.xs ++ w.ys) rows_) ∙ ap (λ k. times q (ids_at m k)) (sym w.was) ∙ live.each q in
      let more : cond {A = ℕ} (is_live (get new_ids q)) 1 0 ≡ cond (id_at n r == q) 1 0 + cond (is_live (get ids q)) 1 0 =
      once_more new_ids ids next (id_at n r) q id_here (ap is_live now) (ap is_live was) others in
      omega arith

  live_with : (rs us : List Ref) → AreLive ids m rs → IsWith r rs us → AreLive new_ids n us
  live_with rs us live w = record {
    rows = live_rows_with ids new_ids m n all_still r (ap (get new_ids) id_here ∙ now) rs us w live.rows;
    each = each_with rs us live w;
  }

  all_live : AllByRecursion (AreLive new_ids n) came.uss
  all_live = all_after (Turned Q ids m n) (AreLive new_ids n) (λ k i x y rs us t. live_with rs us t.live t.done.joined) turns

  ref_still : (q : Ref) → IsHeld m q → IsHeld n q
  ref_still q held = came.refs q.name ∙ ap (λ b. cond b (Some r) (ref_of m q.name)) (apart q held) ∙ held

  has_still : (e : ℕ) (q : Ref) → HasNode m e q → HasNode n e q
  has_still e q h = record { value = h.value; is = value_still q h.held ∙ h.is; id = h.id; held = ref_still q h.held }

  has_here : HasNode n next r
  has_here = record { value = v; is = value_here; id = new; held = came.refs r.name ∙ ap (λ b. cond b (Some r) (ref_of m r.name)) (is_itself r.name) }

  owner : (a : Ref) → IsHeld n a → (e : ℕ) × (w : IdEntry) × (get new_ids e ≡ Some w) × (w.node ≡ a)
  owner a h =
      elim (eqb_tells r.name a.name) [
        | inl same ↦ (
          next,
          record { node = r; live = true },
          now,
          some_is (sym (ap (λ b. cond b (Some r) (ref_of m a.name)) same.0) ∙ sym (came.refs a.name) ∙ h),
        )
        | inr isnt ↦
            let old = is.owned a (sym (came.refs a.name ∙ ap (λ b. cond b (Some r) (ref_of m a.name)) isnt.0) ∙ h) in
            (old.0, old.1, others old.0 (λ same. none_some (sym was ∙ ap (get ids) (sym same) ∙ old.2)) ∙ old.2, old.3)
      ]

  -- all stands after it
  pub come_multi : next + 1 ≤ LAST_COUNT → arrivals + 1 ≤ LAST_COUNT → len ids + 1 ≤ 2 ^ 31 → PlaceFits at_ d.orders
      → conflict s (as_table d) v.row None ≡ None → IsMulti s new_ids n ys (next + 1) (arrivals + 1)
  come_multi next_fits arrivals_fit few fits alone = record {
    rss = came.uss;
    stand = came.stand;
    kinds = all_for s.indexes xs ys like is.kinds;
    live = all_live;
    held = λ q a here.
        elim (eqb_tells q next) [
          | inl it ↦
              let same : record { node = r; live = true } ≡ a = some_is (sym now ∙ sym (ap (get new_ids) it.1) ∙ here) in
              subst (λ (w : IdEntry). HasNode n q w.node) same (subst (λ k. HasNode n k r) (sym it.1) has_here)
          | inr isnt ↦ has_still q a.node (is.held q a (sym (others q isnt.1) ∙ here))
        ];
    owned = owner;
    is_data = subst (IsData s) (sym come_seen) (change_is_tables s (Insert at_ r v.row) d is.is_data (fits, unnamed, alone)).0;
    next_fits = next_fits;
    arrivals_fit = arrivals_fit;
    few =
        let l : len new_ids ≡ len ids + 1 = len-insert nat_cmp_total ids next (record { node = r; live = true })
        ∙ ap (λ o. cond (is_some o) (len ids) (len ids + 1)) was in
        omega arith;
  }
