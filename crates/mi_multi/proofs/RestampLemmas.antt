-- A live row's node moves in one index by another stamp: what the pool says then are the data with that stamp, and all stands.
-- Cited by `MultiIndex::restamp`.
use Rattle.std.proofs.Common.{◌≡◌, ◌≢◌, ℕ, ◌+◌, ◌^◌, ◌<◌, ◌≤◌, zero, suc, Bool, true, false, inl}
use Rattle.std.proofs.Common.{inr, List, [], ◌∷◌, ◌++◌, get_or, set, length, refl, ap, sym, ◌∙◌, subst, arith}
use Rattle.std.specs.Prelude.{◌==◌}
use Rattle.std.specs.List.{AllByRecursion}
use Rattle.std.specs.Option.{option_and_then}
use Rattle.std.specs.Ordering.{nat_cmp}
use Rattle.std.specs.FinMap.{FinMap, get, len}
use Rattle.std.proofs.lemmas.List.{append-nil}
use Rattle.std.proofs.lemmas.Bool.{false≢true}
use Rattle.std.proofs.lemmas.Bool.Decides.{eqb_tells}
use Rattle.std.specs.declared.cmp.Ordering.TheVariants.{Equal}
use Rattle.std.specs.declared.option.Option.TheVariants.{None, Some}
use Rattle.mi_value.specs.declared.compare.KeyPart.{KeyPart}
use Rattle.mi_catalog.specs.declared.index.Index.{Index}
use Rattle.mi_catalog.specs.Shape.{Shape}
use Rattle.mi_model.proofs.ViewLaws.{Lacks}
use Rattle.mi_node.specs.Pool.{Pooled, value_of, link_of, IsHeld}
use Rattle.mi_node.specs.Refs.{Ref}
use Rattle.mi_node.specs.declared.link.Link.{Link as Line}
use Rattle.mi_node.proofs.EntryLemmas.{some_inj}
use Rattle.mi_tree.specs.Sorted.{NoneAre}
use Rattle.mi_chain.specs.Keying.{stamp_at}
use Rattle.mi_order.specs.declared.stored.Stored.{Stored}
use Rattle.mi_index.specs.declared.structure.Structure.{Structure}
use Rattle.mi_index.specs.declared.structure.Structure.TheVariants.{Sorted, Hashed, Sequenced}
use Rattle.mi_index.specs.Orders.{stored_order}
use Rattle.mi_index.specs.Standing.{swap_order}
use Rattle.mi_index.specs.Places.{mark_at, NoneHas}
use Rattle.mi_index.specs.Rekeying.{side_of_value, HasPlaceFor, KeepsKey, CanMove, CanMoveIf, HasMovedIf, rekeying, rekeyed, IsRekeyed}
use Rattle.mi_index.specs.Pass.{AllCan, AllStand, AllLike, AreReady}
use Rattle.mi_index.proofs.FrameLemmas.{itself}
use Rattle.mi_container.specs.Data.{Order, Data, has_stamps, content_in, content_of, stamp_of, node_of, IsData}
use Rattle.mi_container.specs.Data.Order.{ById, ByKey, ByHash, Listed}
use Rattle.mi_container.specs.Changes.{new_stamp}
use Rattle.mi_container.specs.declared.inverse.RowRef.{RowRef as Row}
use Rattle.mi_container.specs.Backs.{row_seen}
use Rattle.mi_container.specs.Fits.{IsThere, IsLive}
use Rattle.mi_container.specs.Restore.{with_stamp, restamped_in}
use Rattle.mi_container.proofs.RestampLemmas.{is_data_restamped}
use Rattle.mi_ids.specs.declared.entry.IdEntry.{IdEntry}
use Rattle.mi_multi.specs.Physical.{record_in, stamp_in, stamps_in, order_of, plan, node_in, live_in}
use Rattle.mi_multi.specs.Multi.{id_at, ids_at, own_list, AreLive, HasNode, IsMulti, plain_of}
use Rattle.mi_multi.specs.Seen.{Seen, seen_of, AreMulti}
use Rattle.mi_multi.specs.declared.multi.MultiIndex.TheInside.{Inside}
use Rattle.mi_multi.proofs.TakeBackInsertLemmas.{live_there}
use Rattle.mi_multi.proofs.PickLemmas.{get_picked}
use Rattle.mi_multi.proofs.EveryIndexLemmas.{Every, Known, one, none, sorted_parts, hashed_order, sequenced_order}
use Rattle.mi_multi.proofs.LiveNodeLemmas.{IsLiveRef, holds, id_of, lacks_middle, node_live, all_left, all_right, all_append}
use Rattle.mi_multi.proofs.StampLemmas.{stamp_row}
use Rattle.mi_multi.proofs.CountLemmas.{no_longer}
use Rattle.mi_multi.proofs.PlaceLemmas.{value_not_equal}
use Rattle.mi_multi.proofs.ReturnLemmas.{Now, standing, has_sorted}
use Rattle.mi_multi.proofs.InsertedLemmas.{stamp_others, one_new}
use Rattle.mi_multi.proofs.PutLemmas.{Shift, known, value_here, revalued_seen, revalued_multi}

new_is : (now : ℕ) (o : Order) → has_stamps o ≡ true → new_stamp now o ≡ now
new_is now ById has = absurd (false≢true has)
new_is now (ByKey ps) has = refl
new_is now (ByHash ps) has = refl
new_is now (Listed ids) has = absurd (false≢true has)

stamp_same : (m n : Pooled Stored) (k x : ℕ) (o : Order) → link_of n k x ≡ link_of m k x → stamp_in n k x o ≡ stamp_in m k x o
stamp_same m n k x ById same = refl
stamp_same m n k x (ByKey ps) same = ap (λ (w : Line). w.tag.stamp) same
stamp_same m n k x (ByHash ps) same = ap (λ (w : Line). w.tag.stamp) same
stamp_same m n k x (Listed l) same = refl

-- only the index of number x is marked
abbrev pub MarksOne : List Bool → ℕ → Type 0
MarksOne marks x = (k : ℕ) → mark_at marks k ≡ (k == x)

module _ (s : Shape) (ids : FinMap nat_cmp IdEntry) (m : Pooled Stored) (xs : List Structure)
    (next arrivals : ℕ) (is : IsMulti s ids m xs next arrivals) (e : ℕ) (r : Ref)
    (there : get ids e ≡ Some (record { node = r; live = true })) (v : Stored) (v_is : value_of m r.name ≡ Some v) (named : v.id ≡ e)
    (x a : ℕ) (has : has_stamps (get_or (plain_of s ids m xs next arrivals).orders x ById) ≡ true)
    (free : (b : ℕ) → b ≢ e → IsThere (plain_of s ids m xs next arrivals).rows b → stamp_of (plain_of s ids m xs next arrivals).rows x b ≢ a)
    (marks : List Bool) (marked : MarksOne marks x) where
  abbrev os : List Order
  os = plan s.indexes

  abbrev d : Data
  d = plain_of s ids m xs next arrivals

  mine : HasNode m e r
  mine = is.held e (record { node = r; live = true }) there

  id : id_at m r ≡ e
  id = id_of ids m e (record { node = r; live = true }) mine

  row_here : node_of d.rows e ≡ Some (node_in m os r)
  row_here = get_picked (live_in m os) ids e ∙ ap (option_and_then (live_in m os)) there

  content_here : content_of d.rows e ≡ (node_in m os r).content
  content_here = ap content_in row_here

  -- It may move

  others_live : (rs as_ bs : List Ref) → AreLive ids m rs → rs ≡ as_ ++ r ∷ bs → AllByRecursion (IsLiveRef ids m) (as_ ++ bs)
  others_live rs as_ bs live parts =
      let all : AllByRecursion (IsLiveRef ids m) (as_ ++ r ∷ bs) = subst (AllByRecursion (IsLiveRef ids m)) parts live.rows in
      let tail : AllByRecursion (IsLiveRef ids m) (r ∷ bs) = all_right (IsLiveRef ids m) as_ (r ∷ bs) all in
      all_append (IsLiveRef ids m) as_ bs (all_left (IsLiveRef ids m) as_ (r ∷ bs) all) tail.1

  others_lack : (rs as_ bs : List Ref) → AreLive ids m rs → rs ≡ as_ ++ r ∷ bs → Lacks e (ids_at m (as_ ++ bs))
  others_lack rs as_ bs live parts = lacks_middle ids m e r as_ bs id there (subst (AreLive ids m) parts live)

  -- no other live node has the stamp
  differs : (q : Ref) → IsLiveRef ids m q → id_at m q ≢ e → x < length os → has_stamps (get_or os x ById) ≡ true → a ≢ (link_of m q.name x).tag.stamp
  differs q live ne l has_ same =
      free (id_at m q) ne (node_in m os q, node_live ids m os q live) (stamp_row ids m os x q live l has_ ∙ sym same)

  none_are : (ps : List KeyPart) (qs : List Ref) → AllByRecursion (IsLiveRef ids m) qs → Lacks e (ids_at m qs)
      → (ps ≢ [] → has_stamps (get_or os x ById) ≡ true) → x < length os → NoneAre (side_of_value (stored_order ps) m x v a) Equal qs
  none_are ps [] all lacks has_ l = tt
  none_are ps (q ∷ qs) all lacks has_ l = (
    value_not_equal ps m x q a v (id_at m q) (is.held (id_at m q) (record { node = q; live = true }) all.0)
        (λ same. lacks.0 (sym same ∙ named)) (λ some. differs q all.0 lacks.0 l (has_ some)),
    none_are ps qs all.1 lacks.1 has_ l,
  )

  none_has : (qs : List Ref) → AllByRecursion (IsLiveRef ids m) qs → Lacks e (ids_at m qs)
      → has_stamps (get_or os x ById) ≡ true → x < length os → NoneHas (stamp_at m x) a qs
  none_has [] all lacks has_ l = tt
  none_has (q ∷ qs) all lacks has_ l = (differs q all.0 lacks.0 l has_, none_has qs all.1 lacks.1 has_ l)

  place_for : (i : Index) (y z : Structure) (rs us : List Ref) → Now s ids m xs next arrivals is x i y z rs us
      → (qs : List Ref) → AllByRecursion (IsLiveRef ids m) qs → Lacks e (ids_at m qs) → HasPlaceFor y m v a None qs
  place_for i (Sorted t) z rs us h qs all lacks =
      let slot : t.slot ≡ x = h.0.slot in
      let parts : t.order.parts ≡ i.parts = h.0.for_.1 in
      let plan_is = h.1.plan_is ∙ sorted_parts i.kind i.parts [] h.0.for_.0 in
      subst (λ w. NoneAre (side_of_value (stored_order t.order.parts) m w v a) Equal qs) (sym slot)
      (none_are t.order.parts qs all lacks (λ some. ap has_stamps plan_is ∙ has_sorted i.parts (λ none_. some (parts ∙ none_))) h.1.few)
  place_for i (Hashed c) z rs us h qs all lacks =
      let slot : c.slot ≡ x = h.0.slot in
      let plan_is = h.1.plan_is ∙ hashed_order i.kind i.parts [] h.0.for_.0 in
      subst (λ w. NoneHas (stamp_at m w) a qs) (sym slot) (none_has qs all lacks (ap has_stamps plan_is) h.1.few)
  place_for i (Sequenced l) z rs us h qs all lacks = (qs, [], sym (append-nil qs), refl)

  goes : (i : Index) (y z : Structure) (rs us : List Ref) → Now s ids m xs next arrivals is x i y z rs us → CanMove y m r v a rs
  goes i y z rs us h =
      let w = holds ids m e r rs there h.0.live in
      record {
        xs = w.xs;
        ys = w.ys;
        parts = w.parts;
        few = let l : length rs ≤ len ids = no_longer ids m rs h.0.live in let f : len ids ≤ 2 ^ 31 = is.few in omega arith;
        place = place_for i y z rs us h (w.xs ++ w.ys) (others_live rs w.xs w.ys h.0.live w.parts) (others_lack rs w.xs w.ys h.0.live w.parts);
      }

  -- elsewhere its value stays
  keeps : (y : Structure) → KeepsKey y m r v
  keeps y old old_is = ap (λ w. swap_order y w v) (some_inj old v (sym old_is ∙ v_is)) ∙ itself y (Some v)

  can_if : (k : ℕ) (i : Index) (y z : Structure) (rs us : List Ref) → Now s ids m xs next arrivals is k i y z rs us → CanMoveIf (k == x) y m r v a rs
  can_if k i y z rs us h =
      elim (eqb_tells k x) [
        | inl same ↦ subst (λ t. CanMoveIf t y m r v a rs) (sym same.0) (goes i y z rs us (subst (λ w. Now s ids m xs next arrivals is w i y z rs us) same.1 h))
        | inr other ↦ subst (λ t. CanMoveIf t y m r v a rs) (sym other.0) (keeps y)
      ]

  all_can : {k : ℕ} {js : List Index} {as_ bs : List Structure} {rss uss : List (List Ref)}
      → Every (Now s ids m xs next arrivals is) k js as_ bs rss uss → AllCan (rekeying marks r v a) as_ k m rss
  all_can none = tt
  all_can (one {s = k} {i = i} {x = y} {y = z} {rs = rs} {us = us} h rest) =
      (subst (λ t. CanMoveIf t y m r v a rs) (sym (marked k)) (can_if k i y z rs us h), all_can rest)

  -- it may move in the index that is marked
  pub can_restamp : AllCan (rekeying marks r v a) xs 0 m is.rss
  can_restamp = all_can (standing s ids m xs next arrivals is)

  -- After

  module _ (n : Pooled Stored) (ys : List Structure) (like : AllLike xs ys) (given : IsRekeyed (rekeyed marks r a) r v xs ys m n is.rss) where
    abbrev Moves : ℕ → Index → Structure → Structure → List Ref → List Ref → Type 0
    Moves = Known (rekeyed marks r a) ids m n os d.orders

    done_at : (k : ℕ) (i : Index) (y z : Structure) (rs us : List Ref) → Moves k i y z rs us → HasMovedIf (k == x) y m n r a rs us
    done_at k i y z rs us h = subst (λ t. HasMovedIf t y m n r a rs us) (marked k) h.0.done

    -- the index has stamps
    stamped_here : (k : ℕ) (i : Index) (y z : Structure) (rs us : List Ref) → Moves k i y z rs us → k ≡ x
        → has_stamps (order_of i.kind i.parts (own_list m y)) ≡ true
    stamped_here k i y z rs us h same = sym (ap has_stamps h.1.order_is) ∙ ap (λ w. has_stamps (get_or d.orders w ById)) same ∙ has

    shift_if : (k : ℕ) (i : Index) (y z : Structure) (rs us : List Ref) → Moves k i y z rs us → (b : Bool)
        → (b ≡ true → k ≡ x) → HasMovedIf b y m n r a rs us → Shift m n r k i rs us
    shift_if k i y z rs us h false same done = record {
      shifted = inl done.list;
      own = λ seq. done.list;
      stamps = λ l has_ q ne. ap (λ (w : Line). w.tag.stamp) (subst (λ w. link_of n q w ≡ link_of m q w) h.0.slot (done.links q));
    }
    shift_if k i y z rs us h true same done = record {
      shifted = inr (done.xs, done.ys, done.parts, done.moved);
      own = λ seq. absurd (false≢true (sym (ap has_stamps (sequenced_order i.kind i.parts (own_list m y) seq))
          ∙ stamped_here k i y z rs us h (same refl)));
      stamps = λ l has_ q ne. subst (λ w. (link_of n q w).tag.stamp ≡ (link_of m q w).tag.stamp)
          h.0.slot (stamp_others i y m n r l a h.0.for_ done.stamped has_ q ne);
    }

    same_number : (k : ℕ) → (k == x) ≡ true → k ≡ x
    same_number k is_ = elim (eqb_tells k x) [ inl same ↦ same.1 | inr other ↦ absurd (false≢true (sym other.0 ∙ is_)) ]

    shifts : (k : ℕ) (i : Index) (y z : Structure) (rs us : List Ref) → Moves k i y z rs us → Shift m n r k i rs us
    shifts k i y z rs us h = shift_if k i y z rs us h (k == x) (same_number k) (done_at k i y z rs us h)

    -- Stamps

    stamp_beside : (k : ℕ) (i : Index) (y z : Structure) (rs us : List Ref) → Moves k i y z rs us → k ≢ x
        → stamp_in n r.name k (order_of i.kind i.parts []) ≡ stamp_in m r.name k (order_of i.kind i.parts [])
    stamp_beside k i y z rs us h ne =
        elim (eqb_tells k x) [
          | inl same ↦ absurd (ne same.1)
          | inr other ↦
              let done = subst (λ t. HasMovedIf t y m n r a rs us) other.0 (done_at k i y z rs us h) in
              stamp_same m n r.name k (order_of i.kind i.parts []) (subst (λ w. link_of n r.name w ≡ link_of m r.name w) h.0.slot (done.links r.name))
        ]

    stamp_there : (k : ℕ) (i : Index) (y z : Structure) (rs us : List Ref) → Moves k i y z rs us → k ≡ x → stamp_in n r.name k (order_of i.kind i.parts []) ≡ a
    stamp_there k i y z rs us h same =
        elim (eqb_tells k x) [
          | inl it ↦
              let done = subst (λ t. HasMovedIf t y m n r a rs us) it.0 (done_at k i y z rs us h) in
              one_new i y m n r k a h.0.for_ h.0.slot done.stamped
              ∙ new_is a (order_of i.kind i.parts (own_list m y)) (stamped_here k i y z rs us h same)
          | inr no_ ↦ absurd (no_.1 same)
        ]

    behind : {k : ℕ} {js : List Index} {as_ bs : List Structure} {rss uss : List (List Ref)} → Every Moves k js as_ bs rss uss → x < k
        → stamps_in n r.name k (plan js) ≡ stamps_in m r.name k (plan js)
    behind none l = refl
    behind (one {s = k} {i = i} {x = y} {y = z} {rs = rs} {us = us} {is = js} h rest) l =
        let next_ : k + 1 ≡ suc k = omega arith in
        let tail : stamps_in n r.name (suc k) (plan js) ≡ stamps_in m r.name (suc k) (plan js) =
        subst (λ w. stamps_in n r.name w (plan js) ≡ stamps_in m r.name w (plan js)) next_ (behind rest (omega arith)) in
        let here = stamp_beside k i y z rs us h (λ same. absurd (omega arith)) in
        (λ j. here j ∷ tail j)

    stamps_put : {k : ℕ} {js : List Index} {as_ bs : List Structure} {rss uss : List (List Ref)} → Every Moves k js as_ bs rss uss
        → (w : ℕ) → x ≡ k + w → stamps_in n r.name k (plan js) ≡ set (stamps_in m r.name k (plan js)) w a
    stamps_put none w at = refl
    stamps_put (one {s = k} {i = i} {x = y} {y = z} {rs = rs} {us = us} {is = js} h rest) zero at =
        let next_ : k + 1 ≡ suc k = omega arith in
        let tail : stamps_in n r.name (suc k) (plan js) ≡ stamps_in m r.name (suc k) (plan js) =
        subst (λ w. stamps_in n r.name w (plan js) ≡ stamps_in m r.name w (plan js)) next_ (behind rest (omega arith)) in
        let here = stamp_there k i y z rs us h (omega arith) in
        (λ j. here j ∷ tail j)
    stamps_put (one {s = k} {i = i} {x = y} {y = z} {rs = rs} {us = us} {is = js} h rest) (suc w) at =
        let next_ : k + 1 ≡ suc k = omega arith in
        let tail : stamps_in n r.name (suc k) (plan js) ≡ set (stamps_in m r.name (suc k) (plan js)) w a =
        subst (λ q. stamps_in n r.name q (plan js) ≡ set (stamps_in m r.name q (plan js)) w a) next_ (stamps_put rest w (omega arith)) in
        let here = stamp_beside k i y z rs us h (λ same. absurd (omega arith)) in
        (λ j. here j ∷ tail j)

    content_now : (node_in n os r).content ≡ with_stamp x a (content_of d.rows e)
    content_now =
        let value = value_here s ids m xs next arrivals is e r there (rekeyed marks r a) v named n ys like given shifts ∙ sym v_is in
        let stamps = stamps_put (known s ids m xs next arrivals is e r there (rekeyed marks r a) v named n ys like given shifts) x (omega arith) in
        (λ i. record { values = record_in (value i); stamps = stamps i }) ∙ ap (with_stamp x a) (sym content_here)

    -- the data after it
    pub restamped_seen : plain_of s ids n ys next arrivals ≡ restamped_in x e a d
    restamped_seen = revalued_seen s ids m xs next arrivals is e r there (rekeyed marks r a) v named n ys like
        given shifts arrivals (with_stamp x a (content_of d.rows e)) content_now

    -- all stands after it
    pub restamped_multi : a < arrivals → IsMulti s ids n ys next arrivals
    restamped_multi early =
        revalued_multi s ids m xs next arrivals is e r there (rekeyed marks r a) v named n ys like given shifts arrivals is.arrivals_fit
        (subst (IsData s) (sym restamped_seen) (is_data_restamped s x e a d is.is_data (node_in m os r, row_here) has early free))

-- By what a call says of the container

module _ (i : Inside) (is : AreMulti i) (w : Seen) (seen : seen_of i ≡ w) (row : Row) (live : IsLive w.plain.rows (row_seen row))
    (x a : ℕ) (has : has_stamps (get_or w.plain.orders x ById) ≡ true)
    (free : (b : ℕ) → b ≢ row.id → IsThere w.plain.rows b → stamp_of w.plain.rows x b ≢ a)
    (marks : List Bool) (marked : MarksOne marks x) where
  abbrev pool : Pooled Stored
  pool = i.nodes.pool

  abbrev items : List Structure
  items = i.nodes.structures.items

  at_it : get i.ids.entries row.id ≡ Some (record { node = row.node; live = true })
  at_it = live_there i w seen (row_seen row) live

  its : HasNode pool row.id row.node
  its = is.held row.id (record { node = row.node; live = true }) at_it

  has_it : has_stamps (get_or (seen_of i).plain.orders x ById) ≡ true
  has_it = subst (λ (u : Seen). has_stamps (get_or u.plain.orders x ById) ≡ true) (sym seen) has

  free_it : (b : ℕ) → b ≢ row.id → IsThere (seen_of i).plain.rows b → stamp_of (seen_of i).plain.rows x b ≢ a
  free_it = subst (λ (u : Seen). (b : ℕ) → b ≢ row.id → IsThere u.plain.rows b → stamp_of u.plain.rows x b ≢ a) (sym seen) free

  pub its_node : IsHeld pool row.node
  its_node = its.held

  can : AllCan (rekeying marks row.node its.value a) items 0 pool is.rss
  can = can_restamp i.schema i.ids.entries pool items i.next i.arrivals is row.id row.node at_it its.value its.is its.id x a has_it free_it marks marked

  pub its_ready : (v : Stored) × (value_of pool row.node.name ≡ Some v) × AreReady (rekeying marks row.node v a) 0 items pool
  its_ready = (
    its.value,
    its.is,
    record {
      rss = is.rss;
      stand = is.stand;
      can = can;
    },
  )

  module _ (n : Pooled Stored) (ys : List Structure) (like : AllLike items ys)
      (done : (v : Stored) → value_of pool row.node.name ≡ Some v → (rss : List (List Ref)) → AllStand items 0 pool rss
      → AllCan (rekeying marks row.node v a) items 0 pool rss → IsRekeyed (rekeyed marks row.node a) row.node v items ys pool n rss) where
    given : IsRekeyed (rekeyed marks row.node a) row.node its.value items ys pool n is.rss
    given = done its.value its.is is.rss is.stand can

    pub call_multi : a < w.plain.arrivals → IsMulti i.schema i.ids.entries n ys i.next i.arrivals
    call_multi early =
        restamped_multi i.schema i.ids.entries pool items i.next i.arrivals is row.id row.node at_it its.value its.is its.id x a has_it free_it marks marked
        n ys like given (subst (λ (u : Seen). a < u.plain.arrivals) (sym seen) early)

    pub call_seen : plain_of i.schema i.ids.entries n ys i.next i.arrivals ≡ restamped_in x row.id a w.plain
    call_seen =
        restamped_seen i.schema i.ids.entries pool items i.next i.arrivals is row.id row.node at_it its.value its.is its.id x a has_it free_it marks marked
        n ys like given ∙ ap (λ (u : Seen). restamped_in x row.id a u.plain) seen
