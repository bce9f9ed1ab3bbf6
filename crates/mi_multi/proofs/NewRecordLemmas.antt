-- Another record in a live row: in each index where its key changes its node may move by the next stamp, and then it holds what the data say.
-- Cited by `OldPlaceLemmas` and `PutCallLemmas`.
use Rattle.std.proofs.Common.{◌≡◌, ◌≢◌, ℕ, ◌+◌, ◌^◌, ◌<◌, ◌≤◌, suc, Bool, true, false, cond, not, inl}
use Rattle.std.proofs.Common.{inr, List, [], ◌∷◌, ◌++◌, get_or, length, refl, ap, sym, ◌∙◌, subst, arith}
use Rattle.std.specs.Prelude.{pos}
use Rattle.std.specs.List.{AllByRecursion}
use Rattle.std.specs.Option.{option_and_then}
use Rattle.std.specs.Ordering.{nat_cmp, is_eq}
use Rattle.std.specs.FinMap.{FinMap, get, len}
use Rattle.std.proofs.lemmas.List.{append-nil}
use Rattle.std.proofs.lemmas.Bool.{false≢true}
use Rattle.std.specs.declared.cmp.Ordering.{Ordering}
use Rattle.std.specs.declared.cmp.Ordering.TheVariants.{Less, Equal, Greater}
use Rattle.std.specs.declared.option.Option.{Option}
use Rattle.std.specs.declared.option.Option.TheVariants.{None, Some}
use Rattle.mi_value.specs.declared.limits.TheConstants.{LAST_COUNT}
use Rattle.mi_value.specs.declared.value.Value.{Value}
use Rattle.mi_value.specs.declared.value.Value.TheVariants.{Int}
use Rattle.mi_value.specs.declared.compare.KeyPart.{KeyPart}
use Rattle.mi_value.specs.Order.{compare_key}
use Rattle.mi_catalog.specs.declared.index.Index.{Index}
use Rattle.mi_catalog.specs.Kinds.{is_sequenced}
use Rattle.mi_catalog.specs.Shape.{Shape}
use Rattle.mi_model.proofs.ViewLaws.{Lacks}
use Rattle.mi_catalog.specs.Key.{parts_or_id}
use Rattle.mi_node.specs.Pool.{Pooled, value_of, link_of}
use Rattle.mi_node.specs.Refs.{Ref}
use Rattle.mi_node.specs.declared.link.Link.{Link as Line}
use Rattle.mi_tree.specs.Sorted.{NoneAre}
use Rattle.mi_chain.specs.Keying.{stamp_at}
use Rattle.mi_order.specs.declared.stored.Stored.{Stored}
use Rattle.mi_index.specs.declared.structure.Structure.{Structure}
use Rattle.mi_index.specs.declared.structure.Structure.TheVariants.{Sorted, Hashed, Sequenced}
use Rattle.mi_index.specs.Orders.{stored_order}
use Rattle.mi_index.specs.Places.{mark_at, NoneHas}
use Rattle.mi_index.specs.Rekeying.{side_of_value, HasPlaceFor, KeepsKey, CanMove, CanMoveIf, HasMovedIf, rekeying, rekeyed, IsRekeyed}
use Rattle.mi_index.specs.Pass.{AllCan, AllLike}
use Rattle.mi_container.specs.Data.{Content, Order, Data, has_stamps, parts_of, node_of, content_in, content_of, IsData}
use Rattle.mi_container.specs.Data.Order.{ById, ByKey, ByHash, Listed}
use Rattle.mi_container.specs.Changes.{sorted_order, new_stamp, restamped, new_content, replaced}
use Rattle.mi_container.specs.Inverse.{OldPlace, old_places, at_in, put_inverse}
use Rattle.mi_container.specs.Inverse.Inverse.{Put}
use Rattle.mi_container.specs.Run.{Allowed}
use Rattle.mi_container.specs.Run.Change.{Replace}
use Rattle.mi_container.proofs.LawLemmas.{change_is_tables}
use Rattle.mi_ids.specs.declared.entry.IdEntry.{IdEntry}
use Rattle.mi_multi.specs.Physical.{stored_id, record_in, stamp_in, stamps_in, order_of, orders_of, plan, node_in, live_in}
use Rattle.mi_multi.specs.Multi.{id_at, ids_at, own_list, own_lists, AreLive, HasNode, IsMulti, plain_of}
use Rattle.mi_multi.proofs.PickLemmas.{get_picked}
use Rattle.mi_multi.proofs.EveryIndexLemmas.{Every, Known, one, none, sorted_parts, hashed_order, sequenced_order}
use Rattle.mi_multi.proofs.LiveNodeLemmas.{IsLiveRef, holds, id_of, lacks_middle, all_left, all_right, all_append}
use Rattle.mi_multi.proofs.NeighbourLemmas.{own_key}
use Rattle.mi_multi.proofs.CountLemmas.{no_longer}
use Rattle.mi_multi.proofs.PlaceLemmas.{value_not_equal}
use Rattle.mi_multi.proofs.ReturnLemmas.{Now, standing, has_sorted}
use Rattle.mi_multi.proofs.InsertLemmas.{later}
use Rattle.mi_multi.proofs.InsertedLemmas.{stamp_others, one_new}
use Rattle.mi_multi.proofs.PutLemmas.{Shift, known, value_here, revalued_seen, revalued_multi}

-- Keys

equal_of : (o : Ordering) → is_eq o ≡ true → o ≡ Equal
equal_of Less h = absurd (false≢true h)
equal_of Equal h = refl
equal_of Greater h = absurd (false≢true h)

parts_sorted : (ps : List KeyPart) → parts_of (sorted_order ps) ≡ ps
parts_sorted [] = refl
parts_sorted (p ∷ ps) = refl

-- whether a record has the key of another in an index
abbrev pub stays : Order → List Value → List Value → Bool
stays o old new = is_eq (compare_key (parts_of o) old new)

-- in one without keys it has
pub sequenced_stays : (i : Index) (l : List ℕ) (o : Order) (a b : List Value) → is_sequenced i.kind ≡ true → o ≡ order_of i.kind i.parts l → stays o a b ≡ true
sequenced_stays i l o a b seq same = ap (λ w. stays w a b) (same ∙ sequenced_order i.kind i.parts l seq)

-- where a key changes there are stamps
changed_stamp : (o : Order) (a b : List Value) (now : ℕ) → stays o a b ≡ false → new_stamp now o ≡ now
changed_stamp ById a b now h = absurd (false≢true (sym h))
changed_stamp (ByKey ps) a b now h = refl
changed_stamp (ByHash ps) a b now h = refl
changed_stamp (Listed l) a b now h = absurd (false≢true (sym h))

rows_equal : (ps : List KeyPart) (v w : Stored) → v.id ≡ w.id → is_eq (compare_key ps v.row w.row) ≡ true → stored_order ps v w ≡ Equal
rows_equal [] v w id same =
    ap (λ k. compare_key (parts_or_id []) (Int (pos v.id) ∷ []) (Int (pos k) ∷ [])) (sym id)
    ∙ equal_of (compare_key (parts_or_id []) (Int (pos v.id) ∷ []) (Int (pos v.id) ∷ [])) (own_key (parts_or_id []) (Int (pos v.id) ∷ []))
rows_equal (p ∷ ps) v w id same = equal_of (compare_key (p ∷ ps) v.row w.row) same

stamp_same : (m n : Pooled Stored) (k x : ℕ) (o : Order) → link_of n k x ≡ link_of m k x → stamp_in n k x o ≡ stamp_in m k x o
stamp_same m n k x ById same = refl
stamp_same m n k x (ByKey ps) same = ap (λ (w : Line). w.tag.stamp) same
stamp_same m n k x (ByHash ps) same = ap (λ (w : Line). w.tag.stamp) same
stamp_same m n k x (Listed l) same = refl

module _ (s : Shape) (ids : FinMap nat_cmp IdEntry) (m : Pooled Stored) (xs : List Structure)
    (next arrivals : ℕ) (is : IsMulti s ids m xs next arrivals) (e : ℕ) (r : Ref)
    (there : get ids e ≡ Some (record { node = r; live = true })) (v : Stored) (named : v.id ≡ e) where
  abbrev os : List Order
  os = plan s.indexes

  abbrev d : Data
  d = plain_of s ids m xs next arrivals

  -- the record that it has
  abbrev pub was : List Value
  was = record_in (value_of m r.name)

  abbrev pub Marked : List Bool → Type 0
  Marked marks = (k : ℕ) → k < length d.orders → mark_at marks k ≡ not (stays (get_or d.orders k ById) was v.row)

  mine : HasNode m e r
  mine = is.held e (record { node = r; live = true }) there

  id : id_at m r ≡ e
  id = id_of ids m e (record { node = r; live = true }) mine

  pub row_here : node_of d.rows e ≡ Some (node_in m os r)
  row_here = get_picked (live_in m os) ids e ∙ ap (option_and_then (live_in m os)) there

  pub content_here : content_of d.rows e ≡ (node_in m os r).content
  content_here = ap content_in row_here

  -- It may move

  others_live : (rs as_ bs : List Ref) → AreLive ids m rs → rs ≡ as_ ++ r ∷ bs → AllByRecursion (IsLiveRef ids m) (as_ ++ bs)
  others_live rs as_ bs live parts =
      let all : AllByRecursion (IsLiveRef ids m) (as_ ++ r ∷ bs) = subst (AllByRecursion (IsLiveRef ids m)) parts live.rows in
      let tail : AllByRecursion (IsLiveRef ids m) (r ∷ bs) = all_right (IsLiveRef ids m) as_ (r ∷ bs) all in
      all_append (IsLiveRef ids m) as_ bs (all_left (IsLiveRef ids m) as_ (r ∷ bs) all) tail.1

  others_lack : (rs as_ bs : List Ref) → AreLive ids m rs → rs ≡ as_ ++ r ∷ bs → Lacks e (ids_at m (as_ ++ bs))
  others_lack rs as_ bs live parts = lacks_middle ids m e r as_ bs id there (subst (AreLive ids m) parts live)

  none_are : (ps : List KeyPart) (k : ℕ) (qs : List Ref) → AllByRecursion (IsLiveRef ids m) qs
      → Lacks e (ids_at m qs) → (ps ≢ [] → has_stamps (get_or os k ById) ≡ true) → k < length os
      → NoneAre (side_of_value (stored_order ps) m k v arrivals) Equal qs
  none_are ps k [] all lacks has l = tt
  none_are ps k (q ∷ qs) all lacks has l = (
    value_not_equal ps m k q arrivals v (id_at m q) (is.held (id_at m q) (record { node = q; live = true }) all.0)
        (λ same. lacks.0 (sym same ∙ named)) (λ some. later s ids m xs next arrivals is k q all.0 l (has some)),
    none_are ps k qs all.1 lacks.1 has l,
  )

  none_has : (k : ℕ) (qs : List Ref) → AllByRecursion (IsLiveRef ids m) qs
      → has_stamps (get_or os k ById) ≡ true → k < length os → NoneHas (stamp_at m k) arrivals qs
  none_has k [] all has l = tt
  none_has k (q ∷ qs) all has l = (later s ids m xs next arrivals is k q all.0 l has, none_has k qs all.1 has l)

  place_for : (k : ℕ) (i : Index) (x y : Structure) (rs us : List Ref) → Now s ids m xs next arrivals is k i x y rs us
      → (qs : List Ref) → AllByRecursion (IsLiveRef ids m) qs → Lacks e (ids_at m qs) → HasPlaceFor x m v arrivals None qs
  place_for k i (Sorted t) y rs us h qs all lacks =
      let slot : t.slot ≡ k = h.0.slot in
      let parts : t.order.parts ≡ i.parts = h.0.for_.1 in
      let plan_is = h.1.plan_is ∙ sorted_parts i.kind i.parts [] h.0.for_.0 in
      subst (λ w. NoneAre (side_of_value (stored_order t.order.parts) m w v arrivals) Equal qs) (sym slot)
      (none_are t.order.parts k qs all lacks (λ some. ap has_stamps plan_is ∙ has_sorted i.parts (λ none_. some (parts ∙ none_))) h.1.few)
  place_for k i (Hashed c) y rs us h qs all lacks =
      let slot : c.slot ≡ k = h.0.slot in
      let plan_is = h.1.plan_is ∙ hashed_order i.kind i.parts [] h.0.for_.0 in
      subst (λ w. NoneHas (stamp_at m w) arrivals qs) (sym slot) (none_has k qs all (ap has_stamps plan_is) h.1.few)
  place_for k i (Sequenced l) y rs us h qs all lacks = (qs, [], sym (append-nil qs), refl)

  goes : (k : ℕ) (i : Index) (x y : Structure) (rs us : List Ref) → Now s ids m xs next arrivals is k i x y rs us → CanMove x m r v arrivals rs
  goes k i x y rs us h =
      let w = holds ids m e r rs there h.0.live in
      record {
        xs = w.xs;
        ys = w.ys;
        parts = w.parts;
        few = let l : length rs ≤ len ids = no_longer ids m rs h.0.live in let f : len ids ≤ 2 ^ 31 = is.few in omega arith;
        place = place_for k i x y rs us h (w.xs ++ w.ys) (others_live rs w.xs w.ys h.0.live w.parts) (others_lack rs w.xs w.ys h.0.live w.parts);
      }

  keeps : (k : ℕ) (i : Index) (x y : Structure) (rs us : List Ref) → Now s ids m xs next arrivals is k i x y rs us
      → stays (get_or d.orders k ById) was v.row ≡ true → KeepsKey x m r v
  keeps k i (Sorted t) y rs us h same old is_ =
      let parts : t.order.parts ≡ i.parts = h.0.for_.1 in
      let order_is : get_or d.orders k ById ≡ sorted_order i.parts = h.1.order_is ∙ sorted_parts i.kind i.parts (own_list m (Sorted t)) h.0.for_.0 in
      let by : parts_of (get_or d.orders k ById) ≡ t.order.parts = ap parts_of order_is ∙ parts_sorted i.parts ∙ sym parts in
      let value : was ≡ old.row = ap record_in is_ in
      let id_ : old.id ≡ v.id = sym (ap stored_id is_) ∙ id ∙ sym named in
      rows_equal t.order.parts old v id_ ((λ j. is_eq (compare_key (sym by j) (sym value j) v.row)) ∙ same)
  keeps k i (Hashed c) y rs us h same old is_ =
      let parts : c.keys.parts ≡ i.parts = h.0.for_.1 in
      let order_is : get_or d.orders k ById ≡ ByHash i.parts = h.1.order_is ∙ hashed_order i.kind i.parts (own_list m (Hashed c)) h.0.for_.0 in
      let by : parts_of (get_or d.orders k ById) ≡ c.keys.parts = ap parts_of order_is ∙ sym parts in
      let value : was ≡ old.row = ap record_in is_ in
      equal_of (compare_key c.keys.parts old.row v.row) ((λ j. is_eq (compare_key (sym by j) (sym value j) v.row)) ∙ same)
  keeps k i (Sequenced l) y rs us h same old is_ = refl

  can_if : (k : ℕ) (i : Index) (x y : Structure) (rs us : List Ref) → Now s ids m xs next arrivals is k i x y rs us
      → (b : Bool) → stays (get_or d.orders k ById) was v.row ≡ b → CanMoveIf (not b) x m r v arrivals rs
  can_if k i x y rs us h true same = keeps k i x y rs us h same
  can_if k i x y rs us h false other = goes k i x y rs us h

  all_can : (marks : List Bool) → Marked marks → {k : ℕ} {js : List Index} {as_ bs : List Structure} {rss uss : List (List Ref)}
      → Every (Now s ids m xs next arrivals is) k js as_ bs rss uss → AllCan (rekeying marks r v arrivals) as_ k m rss
  all_can marks marked none = tt
  all_can marks marked (one {s = k} {i = i} {x = x} {y = y} {rs = rs} {us = us} h rest) = (
    subst (λ t. CanMoveIf t x m r v arrivals rs) (sym (marked k h.1.fewer)) (can_if k i x y rs us h (stays (get_or d.orders k ById) was v.row) refl),
    all_can marks marked rest,
  )

  -- it may move where it is marked
  pub can_put : (marks : List Bool) → Marked marks → AllCan (rekeying marks r v arrivals) xs 0 m is.rss
  can_put marks marked = all_can marks marked (standing s ids m xs next arrivals is)

  -- After

  module _ (marks : List Bool) (marked : Marked marks) (n : Pooled Stored) (ys : List Structure)
      (like : AllLike xs ys) (given : IsRekeyed (rekeyed marks r arrivals) r v xs ys m n is.rss) where
    abbrev Moves : ℕ → Index → Structure → Structure → List Ref → List Ref → Type 0
    Moves = Known (rekeyed marks r arrivals) ids m n os d.orders

    shift_if : (k : ℕ) (i : Index) (x y : Structure) (rs us : List Ref) → Moves k i x y rs us → (b : Bool)
        → stays (get_or d.orders k ById) was v.row ≡ b → HasMovedIf (not b) x m n r arrivals rs us → Shift m n r k i rs us
    shift_if k i x y rs us h true same done = record {
      shifted = inl done.list;
      own = λ seq. done.list;
      stamps = λ l has q ne. ap (λ (w : Line). w.tag.stamp) (subst (λ w. link_of n q w ≡ link_of m q w) h.0.slot (done.links q));
    }
    shift_if k i x y rs us h false other done = record {
      shifted = inr (done.xs, done.ys, done.parts, done.moved);
      own = λ seq. absurd (false≢true (sym other ∙ sequenced_stays i (own_list m x) (get_or d.orders k ById) was v.row seq h.1.order_is));
      stamps = λ l has q ne. subst (λ w. (link_of n q w).tag.stamp ≡ (link_of m q w).tag.stamp)
          h.0.slot (stamp_others i x m n r l arrivals h.0.for_ done.stamped has q ne);
    }

    done_at : (k : ℕ) (i : Index) (x y : Structure) (rs us : List Ref) → Moves k i x y rs us
        → HasMovedIf (not (stays (get_or d.orders k ById) was v.row)) x m n r arrivals rs us
    done_at k i x y rs us h = subst (λ t. HasMovedIf t x m n r arrivals rs us) (marked k h.1.fewer) h.0.done

    shifts : (k : ℕ) (i : Index) (x y : Structure) (rs us : List Ref) → Moves k i x y rs us → Shift m n r k i rs us
    shifts k i x y rs us h = shift_if k i x y rs us h (stays (get_or d.orders k ById) was v.row) refl (done_at k i x y rs us h)

    -- Stamps

    stamp_if : (k : ℕ) (i : Index) (x y : Structure) (rs us : List Ref) → Moves k i x y rs us → (b : Bool)
        → stays (order_of i.kind i.parts (own_list m x)) was v.row ≡ b → HasMovedIf (not b) x m n r arrivals rs us
        → stamp_in n r.name k (order_of i.kind i.parts []) ≡ cond b (stamp_in m r.name k (order_of i.kind i.parts [])) arrivals
    stamp_if k i x y rs us h true same done = stamp_same m n r.name k (order_of i.kind i.parts [])
        (subst (λ w. link_of n r.name w ≡ link_of m r.name w) h.0.slot (done.links r.name))
    stamp_if k i x y rs us h false other done =
        one_new i x m n r k arrivals h.0.for_ h.0.slot done.stamped ∙ changed_stamp (order_of i.kind i.parts (own_list m x)) was v.row arrivals other

    one_stamp : (k : ℕ) (i : Index) (x y : Structure) (rs us : List Ref) → Moves k i x y rs us
        → stamp_in n r.name k (order_of i.kind i.parts [])
        ≡ cond (stays (order_of i.kind i.parts (own_list m x)) was v.row) (stamp_in m r.name k (order_of i.kind i.parts [])) arrivals
    one_stamp k i x y rs us h =
        stamp_if k i x y rs us h (stays (order_of i.kind i.parts (own_list m x)) was v.row) refl
        (subst (λ o. HasMovedIf (not (stays o was v.row)) x m n r arrivals rs us) h.1.order_is (done_at k i x y rs us h))

    stamps_put : {k : ℕ} {js : List Index} {as_ bs : List Structure} {rss uss : List (List Ref)} → Every Moves k js as_ bs rss uss
        → stamps_in n r.name k (plan js) ≡ restamped (orders_of js (own_lists m as_)) was v.row arrivals (stamps_in m r.name k (plan js))
    stamps_put none = refl
    stamps_put (one {s = k} {i = i} {x = x} {y = y} {rs = rs} {us = us} {is = js} {xs = as_} h rest) =
        let next_ : k + 1 ≡ suc k = omega arith in
        let tail : stamps_in n r.name (suc k) (plan js) ≡ restamped (orders_of js (own_lists m as_)) was v.row arrivals (stamps_in m r.name (suc k) (plan js)) =
        subst (λ w. stamps_in n r.name w (plan js) ≡ restamped (orders_of js (own_lists m as_)) was v.row arrivals (stamps_in m r.name w (plan js)))
        next_ (stamps_put rest) in
        (λ j. one_stamp k i x y rs us h j ∷ tail j)

    -- it holds what the data say
    content_put : (node_in n os r).content ≡ new_content d.orders v.row arrivals (content_of d.rows e)
    content_put =
        let value = value_here s ids m xs next arrivals is e r there (rekeyed marks r arrivals) v named n ys like given shifts in
        let stamps = stamps_put (known s ids m xs next arrivals is e r there (rekeyed marks r arrivals) v named n ys like given shifts) in
        (λ i. record { values = record_in (value i); stamps = stamps i }) ∙ ap (new_content d.orders v.row arrivals) (sym content_here)

    -- the data after it
    pub put_seen : plain_of s ids n ys next (arrivals + 1) ≡ replaced e v.row d
    put_seen = revalued_seen s ids m xs next arrivals is e r there (rekeyed marks r arrivals) v named n ys like
        given shifts (arrivals + 1) (new_content d.orders v.row arrivals (content_of d.rows e)) content_put

    -- all stands after it
    pub put_multi : arrivals < LAST_COUNT → Allowed s (Replace e v.row) d → IsMulti s ids n ys next (arrivals + 1)
    put_multi few allowed =
        revalued_multi s ids m xs next arrivals is e r there (rekeyed marks r arrivals) v named n ys like given shifts (arrivals + 1) (omega arith)
        (subst (IsData s) (sym put_seen) (change_is_tables s (Replace e v.row) d is.is_data allowed).0)

  -- what takes it back
  pub put_inverse_is : (w : Stored) → value_of m r.name ≡ Some w → (ps : List (Option OldPlace))
      → ps ≡ old_places 0 d.rows e (content_of d.rows e).values v.row d.orders (content_of d.rows e).stamps
      → Put (record { id = e; at = r }) (record { values = w.row; places = ps }) ≡ put_inverse e v.row d
  put_inverse_is w w_is ps same =
      let node = row_here in
      let content = content_here in
      let values : w.row ≡ (content_of d.rows e).values = sym (ap record_in w_is) ∙ ap (λ (c : Content). c.values) (sym content) in
      (λ i. Put (record { id = e; at = at_in (sym node i) }) (record { values = values i; places = same i }))
