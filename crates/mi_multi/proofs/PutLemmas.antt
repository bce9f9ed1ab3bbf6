-- A row's node has another value, and may have moved in some indexes: what the pool says then are the data with another content, and all stands.
--     IsShifted, Shift      what this takes of one index
-- Cited by `NewRecordLemmas` and `RestampLemmas`.
use Rattle.std.proofs.Common.{◌≡◌, ℕ, ◌+◌, ◌≤◌, true, false, cond, ◌⊎◌, inl, inr, List, []}
use Rattle.std.proofs.Common.{◌∷◌, ◌++◌, get_or, refl, ap, sym, ◌∙◌, subst}
use Rattle.std.specs.Prelude.{◌==◌}
use Rattle.std.specs.List.{AllByRecursion}
use Rattle.std.specs.Option.{option_and_then}
use Rattle.std.specs.Ordering.{nat_cmp}
use Rattle.std.specs.FinMap.{FinMap, get, entries}
use Rattle.std.proofs.lemmas.Bool.Decides.{eqb_tells}
use Rattle.std.specs.declared.option.Option.TheVariants.{Some}
use Rattle.mi_value.specs.declared.limits.TheConstants.{LAST_COUNT}
use Rattle.mi_catalog.specs.declared.index.Index.{Index}
use Rattle.mi_catalog.specs.Kinds.{is_sequenced}
use Rattle.mi_catalog.specs.Shape.{Shape}
use Rattle.mi_model.specs.Table.{times}
use Rattle.mi_node.specs.Pool.{Pooled, value_of, link_of}
use Rattle.mi_node.specs.Refs.{Ref}
use Rattle.mi_order.specs.declared.stored.Stored.{Stored}
use Rattle.mi_index.specs.declared.structure.Structure.{Structure}
use Rattle.mi_index.specs.Places.{IsWith}
use Rattle.mi_index.specs.Pass.{Gives, AllLike}
use Rattle.mi_index.specs.Rekeying.{IsRekeyed}
use Rattle.mi_container.specs.Data.{Content, Order, Data, has_stamps, IsData}
use Rattle.mi_container.specs.Data.Order.{ById}
use Rattle.mi_container.specs.Changes.{with_content}
use Rattle.mi_container.proofs.PairLemmas.{is_itself}
use Rattle.mi_ids.specs.declared.entry.IdEntry.{IdEntry}
use Rattle.mi_multi.specs.Physical.{stored_id, order_of, orders_of, plan, node_in, live_in, picked}
use Rattle.mi_multi.specs.Alike.{SaysSame, IsAltered}
use Rattle.mi_multi.specs.Multi.{id_at, ids_at, own_lists, AreLive, HasNode, IsMulti, plain_of}
use Rattle.mi_multi.proofs.RowLemmas.{picked_with}
use Rattle.mi_multi.proofs.ListLemmas.{times_middle}
use Rattle.mi_multi.proofs.SameNodeLemmas.{live_alike, kept_still}
use Rattle.mi_multi.proofs.OrderLemmas.{orders_map, orders_same}
use Rattle.mi_multi.proofs.EveryIndexLemmas.{Turned, Known, Every, At, at, every, all_after, all_known, all_for, seq_known, at_stamps}
use Rattle.mi_multi.proofs.LiveNodeLemmas.{IsLiveRef, id_of, names_apart, out_of_all, all_left, all_right, all_append}

-- a list is the same, or the node has moved in it
abbrev pub IsShifted : Ref → List Ref → List Ref → Type 0
IsShifted r rs us = (us ≡ rs) ⊎ ((as_ bs : List Ref) × (rs ≡ as_ ++ r ∷ bs) × IsWith r (as_ ++ bs) us)

-- in the index of a number: a list of its own stays, and so do the stamps of all other nodes
pub record Shift (m n : Pooled Stored) (r : Ref) (k : ℕ) (i : Index) (rs us : List Ref) : Type 0 where
  pub shifted : IsShifted r rs us
  pub own : is_sequenced i.kind ≡ true → us ≡ rs
  pub stamps : (l : List ℕ) → has_stamps (order_of i.kind i.parts l) ≡ true → (q : ℕ)
      → (r.name == q) ≡ false → (link_of n q k).tag.stamp ≡ (link_of m q k).tag.stamp

module _ (s : Shape) (ids : FinMap nat_cmp IdEntry) (m : Pooled Stored) (xs : List Structure)
    (next arrivals : ℕ) (is : IsMulti s ids m xs next arrivals) (e : ℕ) (r : Ref)
    (there : get ids e ≡ Some (record { node = r; live = true })) (Q : Gives) (v : Stored) (named : v.id ≡ e)
    (n : Pooled Stored) (ys : List Structure) (like : AllLike xs ys) (given : IsRekeyed Q r v xs ys m n is.rss)
    (shifts : (k : ℕ) (i : Index) (x y : Structure) (rs us : List Ref)
    → Known Q ids m n (plan s.indexes) (orders_of s.indexes (own_lists m xs)) k i x y rs us → Shift m n r k i rs us) where
  abbrev os : List Order
  os = plan s.indexes

  abbrev d : Data
  d = plain_of s ids m xs next arrivals

  turns : Every (Turned Q ids m n) 0 s.indexes xs ys is.rss given.uss
  turns = every Q ids m n 0 s.indexes xs ys is.rss given.uss is.kinds like is.stand given.stand given.done is.live

  -- what is known of each index
  pub known : Every (Known Q ids m n os d.orders) 0 s.indexes xs ys is.rss given.uss
  known = all_known Q ids m n turns

  mine : HasNode m e r
  mine = is.held e (record { node = r; live = true }) there

  -- Values

  pub value_here : value_of n r.name ≡ Some v
  value_here = given.values r.name ∙ ap (λ b. cond b (Some v) (value_of m r.name)) (is_itself r.name)

  value_still : (q : ℕ) → (r.name == q) ≡ false → value_of n q ≡ value_of m q
  value_still q ne = given.values q ∙ ap (λ b. cond b (Some v) (value_of m q)) ne

  -- each node has the id that it had
  id_still : (q : ℕ) → stored_id (value_of n q) ≡ stored_id (value_of m q)
  id_still q =
      elim (eqb_tells r.name q) [
        | inl same ↦
            ap stored_id (given.values q ∙ ap (λ b. cond b (Some v) (value_of m q)) same.0) ∙ named
            ∙ sym (id_of ids m e (record { node = r; live = true }) mine) ∙ ap (λ k. stored_id (value_of m k)) same.1
        | inr isnt ↦ ap stored_id (value_still q isnt.0)
      ]

  ids_still : (qs : List Ref) → ids_at n qs ≡ ids_at m qs
  ids_still [] = refl
  ids_still (q ∷ qs) = (λ i. id_still q.name i ∷ ids_still qs i)

  -- Rows

  stamp_of_slot : (x : ℕ) (o : Order) → At (Known Q ids m n os d.orders) x o → has_stamps o ≡ true
      → (q : ℕ) → (r.name == q) ≡ false → (link_of n q x).tag.stamp ≡ (link_of m q x).tag.stamp
  stamp_of_slot x o (at i a c rs us l h is_order) has q ne = (shifts x i a c rs us h).stamps l (sym (ap has_stamps is_order) ∙ has) q ne

  says : (q : ℕ) → (r.name == q) ≡ false → SaysSame os m n q
  says q ne = record {
    value = value_still q ne;
    stamps = λ x has. stamp_of_slot x (get_or os x ById) (at_stamps (Known Q ids m n os d.orders) known x has) has q ne;
  }

  altered : IsAltered os ids m n e
  altered = record {
    says = λ q a ne here. says a.node.name (names_apart m e q r a.node mine (is.held q a here) (λ same. ne (sym same)));
    kept = λ q a ne here dead t. given.other_nodes a.node.name t (names_apart m q e a.node r (is.held q a here) mine ne)
        (out_of_all ids m q a is.rss here dead (is.held q a here) is.live);
  }

  rows_with : (c : Content) → (node_in n os r).content ≡ c → picked (live_in n os) (entries ids) ≡ with_content e c d.rows
  rows_with c same =
      picked_with (live_in m os) (live_in n os) ids ids e (λ q ne. refl) (live_alike os ids m n e altered)
      (node_in m os r) c (ap (option_and_then (live_in m os)) there)
      (ap (option_and_then (live_in n os)) there ∙ ap (λ w. Some (record { at = r; content = w })) same)

  orders_still : orders_of s.indexes (own_lists n ys) ≡ d.orders
  orders_still =
      orders_map (λ l. l) (λ _ l. l) s.indexes (own_lists m xs) (own_lists n ys) (λ k. refl)
      (seq_known Q ids m n os d.orders (λ _ l. l) known (λ k i x y rs us seq h. ids_still us ∙ ap (ids_at m) ((shifts (0 + k) i x y rs us h).own seq)))
      ∙ orders_same d.orders

  -- the data with that content
  pub revalued_seen : (now : ℕ) (c : Content) → (node_in n os r).content ≡ c
      → plain_of s ids n ys next now ≡ record d { rows = with_content e c d.rows; arrivals = now }
  revalued_seen now c same =
      let rows = rows_with c same in
      let orders = orders_still in
      let kept = kept_still os ids m n e there refl altered in
      (λ i. record { rows = rows i; orders = orders i; next = next; arrivals = now; kept = kept i })

  -- Lists

  live_still : (us : List Ref) → AllByRecursion (IsLiveRef ids m) us → AllByRecursion (IsLiveRef ids n) us
  live_still [] all = tt
  live_still (w ∷ us) all = (ap (get ids) (id_still w.name) ∙ all.0, live_still us all.1)

  live_shifted : (rs us : List Ref) → AreLive ids m rs → IsShifted r rs us → AreLive ids n us
  live_shifted rs us live (inl same) = record {
    rows = live_still us (subst (AllByRecursion (IsLiveRef ids m)) (sym same) live.rows);
    each = λ w. ap (times w) (ids_still us ∙ ap (ids_at m) same) ∙ live.each w;
  }
  live_shifted rs us live (inr moved) =
      let as_ = moved.0 in
      let bs = moved.1 in
      let w = moved.3 in
      let was : AllByRecursion (IsLiveRef ids m) (as_ ++ r ∷ bs) = subst (AllByRecursion (IsLiveRef ids m)) moved.2 live.rows in
      let tail : AllByRecursion (IsLiveRef ids m) (r ∷ bs) = all_right (IsLiveRef ids m) as_ (r ∷ bs) was in
      let both : AllByRecursion (IsLiveRef ids m) (w.xs ++ w.ys) = subst (AllByRecursion (IsLiveRef ids m))
      w.was (all_append (IsLiveRef ids m) as_ bs (all_left (IsLiveRef ids m) as_ (r ∷ bs) was) tail.1) in
      let now_ : AllByRecursion (IsLiveRef ids m) (w.xs ++ r ∷ w.ys) = all_append (IsLiveRef ids m) w.xs (r ∷ w.ys)
      (all_left (IsLiveRef ids m) w.xs w.ys both) (tail.0, all_right (IsLiveRef ids m) w.xs w.ys both) in
      record {
        rows = live_still us (subst (AllByRecursion (IsLiveRef ids m)) (sym w.now) now_);
        each = λ k. ap (times k) (ids_still us ∙ ap (ids_at m) w.now) ∙ times_middle (id_at m) k w.xs r w.ys
            ∙ ap (λ a. cond (id_at m r == k) 1 0 + times k (ids_at m a)) (sym w.was)
            ∙ sym (times_middle (id_at m) k as_ r bs) ∙ ap (λ a. times k (ids_at m a)) (sym moved.2) ∙ live.each k;
      }

  all_live : AllByRecursion (AreLive ids n) given.uss
  all_live =
      all_after (Known Q ids m n os d.orders) (AreLive ids n) (λ k i x y rs us h. live_shifted rs us h.0.live (shifts k i x y rs us h).shifted) known

  has_still : (q : ℕ) (b : Ref) → HasNode m q b → HasNode n q b
  has_still q b h =
      elim (eqb_tells r.name b.name) [
        | inl same ↦ record {
          value = v;
          is = given.values b.name ∙ ap (λ t. cond t (Some v) (value_of m b.name)) same.0;
          id = named ∙ sym (id_of ids m e (record { node = r; live = true }) mine) ∙ ap (λ k. stored_id (value_of m k)) same.1 ∙ ap stored_id h.is ∙ h.id;
          held = given.refs b.name ∙ h.held;
        }
        | inr isnt ↦ record { value = h.value; is = value_still b.name isnt.0 ∙ h.is; id = h.id; held = given.refs b.name ∙ h.held }
      ]

  -- all stands after it
  pub revalued_multi : (now : ℕ) → now ≤ LAST_COUNT → IsData s (plain_of s ids n ys next now) → IsMulti s ids n ys next now
  revalued_multi now fits data_ = record {
    rss = given.uss;
    stand = given.stand;
    kinds = all_for s.indexes xs ys like is.kinds;
    live = all_live;
    held = λ q a here. has_still q a.node (is.held q a here);
    owned = λ a h. is.owned a (sym (given.refs a.name) ∙ h);
    is_data = data_;
    next_fits = is.next_fits;
    arrivals_fit = fits;
    few = is.few;
  }
