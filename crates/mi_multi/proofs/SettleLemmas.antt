-- What inverses name: entries of ids. And a kept node is freed.
-- Cited by `MultiIndex::settle_erased`, `AnswerLemmas`, `InsertedLemmas`, `RoomLemmas`, `TakeBackInsertLemmas` and 1 more.
use Rattle.std.proofs.Common.{◌≡◌, ◌≢◌, ℕ, ◌+◌, ◌-◌, ◌^◌, ◌≤◌, suc, Bool, true, false, cond, inl, inr, List, [], ◌∷◌, refl, ap, sym, ◌∙◌, subst, arith}
use Rattle.std.specs.Prelude.{◌==◌}
use Rattle.std.specs.List.{AllByRecursion}
use Rattle.std.specs.Option.{option_and_then, is_some}
use Rattle.std.specs.Ordering.{nat_cmp}
use Rattle.std.specs.FinMap.{FinMap, get, entries, remove, len, len-remove}
use Rattle.std.proofs.lemmas.Cmp.{nat_cmp_total}
use Rattle.std.proofs.lemmas.Bool.{false≢true}
use Rattle.std.proofs.lemmas.Bool.Decides.{eqb_tells}
use Rattle.std.specs.declared.option.Option.{Option}
use Rattle.std.specs.declared.option.Option.TheVariants.{None, Some}
use Rattle.mi_value.specs.declared.compare.KeyPart.{KeyPart}
use Rattle.mi_catalog.specs.declared.index.Index.{Index}
use Rattle.mi_catalog.specs.declared.index.IndexKind.{IndexKind}
use Rattle.mi_catalog.specs.declared.index.IndexKind.TheVariants as kinds
use Rattle.mi_catalog.specs.Kinds.{is_sequenced}
use Rattle.mi_catalog.specs.Shape.{Shape}
use Rattle.mi_model.specs.Table.{times}
use Rattle.mi_node.specs.Pool.{Pooled, value_of, link_of, ref_of, no_link, IsHeld, without}
use Rattle.mi_node.specs.declared.link.Link.{Link as Line}
use Rattle.mi_node.specs.Refs.{Ref, IsOut}
use Rattle.mi_node.proofs.EntryLemmas.{value-without, link-without, ref-without}
use Rattle.mi_order.specs.declared.stored.Stored.{Stored}
use Rattle.mi_index.specs.declared.structure.Structure.{Structure}
use Rattle.mi_index.specs.Pass.{Gives, AllStand, AllGiven, IsOutOfAll}
use Rattle.mi_index.proofs.RoomLemmas.{all_like}
use Rattle.mi_container.specs.Data.{Node, Kept, Data, Order, node_of, kept_of, IsData}
use Rattle.mi_container.specs.Data.Order.{Listed}
use Rattle.mi_container.specs.Changes.{left_out}
use Rattle.mi_container.specs.Inverse.Inverse.{Erased}
use Rattle.mi_container.proofs.PairLemmas.{some_is, none_some}
use Rattle.mi_container.proofs.FitLemmas.{settled_data}
use Rattle.mi_ids.specs.declared.entry.IdEntry.{IdEntry}
use Rattle.mi_multi.specs.Physical.{stored_id, order_of, orders_of, plan, node_in, kept_node_in, live_in, kept_in, picked}
use Rattle.mi_multi.specs.Alike.{IsAltered, SeqBy}
use Rattle.mi_multi.specs.Multi.{id_at, ids_at, own_lists, is_live, AreLive, HasNode, IsMulti, plain_of}
use Rattle.mi_multi.proofs.ListLemmas.{itself}
use Rattle.mi_multi.proofs.PickLemmas.{get_picked}
use Rattle.mi_multi.proofs.RowLemmas.{picked_lost, picked_still, get_gone, get_left}
use Rattle.mi_multi.proofs.SameNodeLemmas.{live_alike, kept_alike}
use Rattle.mi_multi.proofs.LiveNodeLemmas.{IsLiveRef, names_apart, out_of, out_of_all}
use Rattle.mi_multi.proofs.EveryIndexLemmas.{Turned, Every, every, seq_by}

-- Entries

live_entry : (m : Pooled Stored) (os : List Order) (a : IdEntry) (b : Bool) (n : Node)
    → cond b (Some (node_in m os a.node)) None ≡ Some n → (b ≡ true) × (node_in m os a.node ≡ n)
live_entry m os a true n h = (refl, some_is h)
live_entry m os a false n h = absurd (cc)

kept_entry : (m : Pooled Stored) (os : List Order) (a : IdEntry) (b : Bool) (k : Kept)
    → cond b None (Some (kept_node_in m os a.node)) ≡ Some k → (b ≡ false) × (kept_node_in m os a.node ≡ k)
kept_entry m os a true k h = absurd (cc)
kept_entry m os a false k h = (refl, some_is h)

live_of : (m : Pooled Stored) (os : List Order) (o : Option IdEntry) (n : Node) → option_and_then (live_in m os) o ≡ Some n
    → (o ≡ Some (record { node = n.at; live = true })) × (n ≡ node_in m os n.at)
live_of m os None n h = absurd (cc)
live_of m os (Some a) n h =
    let e = live_entry m os a a.live n h in
    let at : a.node ≡ n.at = ap (λ (k : Node). k.at) e.1 in
    ((λ i. Some (record { node = at i; live = e.0 i })), sym e.1 ∙ ap (node_in m os) at)

kept_of_entry : (m : Pooled Stored) (os : List Order) (o : Option IdEntry) (k : Kept) → option_and_then (kept_in m os) o ≡ Some k
    → (o ≡ Some (record { node = k.node.at; live = false })) × (k ≡ kept_node_in m os k.node.at)
kept_of_entry m os None k h = absurd (cc)
kept_of_entry m os (Some a) k h =
    let e = kept_entry m os a a.live k h in
    let at : a.node ≡ k.node.at = ap (λ (w : Kept). w.node.at) e.1 in
    ((λ i. Some (record { node = at i; live = e.0 i })), sym e.1 ∙ ap (kept_node_in m os) at)

-- a live row's entry, and that of a kept node
pub entry_live : (ids : FinMap nat_cmp IdEntry) (m : Pooled Stored) (os : List Order) (e : ℕ) (n : Node)
    → node_of (picked (live_in m os) (entries ids)) e ≡ Some n
    → (get ids e ≡ Some (record { node = n.at; live = true })) × (n ≡ node_in m os n.at)
entry_live ids m os e n h = live_of m os (get ids e) n (sym (get_picked (live_in m os) ids e) ∙ h)

pub entry_kept : (ids : FinMap nat_cmp IdEntry) (m : Pooled Stored) (os : List Order) (e : ℕ) (k : Kept)
    → kept_of (picked (kept_in m os) (entries ids)) e ≡ Some k
    → (get ids e ≡ Some (record { node = k.node.at; live = false })) × (k ≡ kept_node_in m os k.node.at)
entry_kept ids m os e k h = kept_of_entry m os (get ids e) k (sym (get_picked (kept_in m os) ids e) ∙ h)

-- A kept node is freed

order_still : (kind : IndexKind) (ps : List KeyPart) (l u : List ℕ) → (is_sequenced kind ≡ true → u ≡ l) → order_of kind ps u ≡ order_of kind ps l
order_still kinds.Ordered ps l u same = refl
order_still kinds.Ranked ps l u same = refl
order_still kinds.Hashed ps l u same = refl
order_still kinds.Sequenced ps l u same = ap Listed (same refl)

pub orders_still : (g : ℕ → List ℕ → List ℕ) (is : List Index) (ls us : List (List ℕ))
    → ((k : ℕ) (l : List ℕ) → g k l ≡ l) → SeqBy g is ls us → orders_of is us ≡ orders_of is ls
orders_still g [] ls us all by = refl
orders_still g (i ∷ is) [] us all by = absurd by
orders_still g (i ∷ is) (l ∷ ls) [] all by = absurd by
orders_still g (i ∷ is) (l ∷ ls) (u ∷ us) all by =
    (λ j. order_still i.kind i.parts l u (λ h. by.0 h ∙ all 0 l) j ∷ orders_still (λ k. g (suc k)) is ls us (λ k q. all (suc k) q) by.1 j)

abbrev same_list : Gives
same_list s x m n rs us = us ≡ rs

done_any : (s : ℕ) (m n : Pooled Stored) (xs : List Structure) (rss : List (List Ref)) → AllStand xs s m rss → AllGiven same_list xs s m n rss rss
done_any s m n [] [] a = tt
done_any s m n [] (rs ∷ rss) a = absurd a
done_any s m n (x ∷ xs) [] a = absurd a
done_any s m n (x ∷ xs) (rs ∷ rss) a = (refl, done_any (s + 1) m n xs rss a.2)

module _ (s : Shape) (ids : FinMap nat_cmp IdEntry) (m : Pooled Stored) (xs : List Structure)
    (next arrivals : ℕ) (is : IsMulti s ids m xs next arrivals) (e : ℕ) (r : Ref)
    (there : get ids e ≡ Some (record { node = r; live = false })) where
  abbrev os : List Order
  os = plan s.indexes

  abbrev d : Data
  d = plain_of s ids m xs next arrivals

  abbrev n : Pooled Stored
  n = without m r.name

  abbrev new_ids : FinMap nat_cmp IdEntry
  new_ids = remove ids e

  abbrev mine : HasNode m e r
  mine = is.held e (record { node = r; live = false }) there

  -- it stands in no index
  out : IsOutOfAll r.name is.rss
  out = out_of_all ids m e (record { node = r; live = false }) is.rss there refl mine is.live

  value_beside : (k : ℕ) → (r.name == k) ≡ false → value_of n k ≡ value_of m k
  value_beside k ne = value-without m r.name k ∙ ap (λ b. cond b None (value_of m k)) ne

  link_beside : (k t : ℕ) → (r.name == k) ≡ false → link_of n k t ≡ link_of m k t
  link_beside k t ne = link-without m r.name k t ∙ ap (λ b. cond b no_link (link_of m k t)) ne

  apart : (q : ℕ) (a : IdEntry) → q ≢ e → get ids q ≡ Some a → (r.name == a.node.name) ≡ false
  apart q a ne here = names_apart m e q r a.node mine (is.held q a here) (λ h. ne (sym h))

  altered : IsAltered os ids m n e
  altered = record {
    says = λ q a ne here. record {
      value = value_beside a.node.name (apart q a ne here);
      stamps = λ x has. ap (λ (l : Line). l.tag.stamp) (link_beside a.node.name x (apart q a ne here));
    };
    kept = λ q a ne here dead t. link_beside a.node.name t (apart q a ne here);
  }

  others : (q : ℕ) → q ≢ e → get new_ids q ≡ get ids q
  others q ne = get_left ids e q ne

  rows_still : picked (live_in n os) (entries new_ids) ≡ d.rows
  rows_still = picked_still (live_in m os) (live_in n os) ids new_ids e others (live_alike os ids m n e altered)
      (ap (option_and_then (live_in n os)) (get_gone ids e) ∙ sym (ap (option_and_then (live_in m os)) there))

  kept_left : picked (kept_in n os) (entries new_ids) ≡ left_out e d.kept
  kept_left = picked_lost (kept_in m os) (kept_in n os) ids new_ids e others (kept_alike os ids m n e altered)
      next is.is_data.kept (ap (option_and_then (kept_in n os)) (get_gone ids e))

  ids_still : (rs : List Ref) → IsOut r.name rs → ids_at n rs ≡ ids_at m rs
  ids_still [] out_ = refl
  ids_still (q ∷ qs) out_ = (λ i. stored_id (value_beside q.name out_.0 i) ∷ ids_still qs out_.1 i)

  not_here : (q : Ref) → IsLiveRef ids m q → id_at m q ≢ e
  not_here q live same =
      let both : record { node = r; live = false } ≡ record { node = q; live = true } = some_is (sym there ∙ sym (ap (get ids) same) ∙ live) in
      false≢true (ap (λ (a : IdEntry). a.live) both)

  out_here : (rs : List Ref) → AreLive ids m rs → IsOut r.name rs
  out_here rs live = out_of ids m e (record { node = r; live = false }) rs there refl mine live.rows

  module _ (stands : AllStand xs 0 n is.rss) where
    turns : Every (Turned same_list ids m n) 0 s.indexes xs xs is.rss is.rss
    turns = every same_list ids m n 0 s.indexes xs xs is.rss is.rss is.kinds (all_like xs) is.stand stands (done_any 0 m n xs is.rss is.stand) is.live

    orders_same : orders_of s.indexes (own_lists n xs) ≡ d.orders
    orders_same =
        orders_still (λ _ l. l) s.indexes (own_lists m xs) (own_lists n xs) (λ k l. refl)
        (seq_by same_list ids m n (λ _ l. l) turns (λ k i x y rs us seq t. ap (ids_at n) t.done ∙ ids_still rs (out_here rs t.live)))

    -- the data without it
    freed_seen : plain_of s new_ids n xs next arrivals ≡ record d { kept = left_out e d.kept }
    freed_seen = (λ i. record { rows = rows_still i; orders = orders_same i; next = next; arrivals = arrivals; kept = kept_left i })

    live_still : (q : Ref) → IsLiveRef ids m q → (r.name == q.name) ≡ false → IsLiveRef new_ids n q
    live_still q live ne = ap (get new_ids) (ap stored_id (value_beside q.name ne)) ∙ others (id_at m q) (not_here q live) ∙ live

    all_still : (qs : List Ref) → AllByRecursion (IsLiveRef ids m) qs → IsOut r.name qs → AllByRecursion (IsLiveRef new_ids n) qs
    all_still [] all out_ = tt
    all_still (q ∷ qs) all out_ = (live_still q all.0 out_.0, all_still qs all.1 out_.1)

    live_freed : (rs : List Ref) → AreLive ids m rs → AreLive new_ids n rs
    live_freed rs live = record {
      rows = all_still rs live.rows (out_here rs live);
      each = λ q. ap (times q) (ids_still rs (out_here rs live)) ∙ live.each q
          ∙ elim (eqb_tells q e) [
            | inl it ↦ ap (λ k. cond {A = ℕ} (is_live (get ids k)) 1 0) it.1 ∙ ap (λ o. cond {A = ℕ} (is_live o) 1 0) there
                ∙ sym (ap (λ k. cond {A = ℕ} (is_live (get new_ids k)) 1 0) it.1 ∙ ap (λ o. cond {A = ℕ} (is_live o) 1 0) (get_gone ids e))
            | inr isnt ↦ ap (λ o. cond {A = ℕ} (is_live o) 1 0) (sym (others q isnt.1))
          ];
    }

    all_freed : (rss : List (List Ref)) → AllByRecursion (AreLive ids m) rss → AllByRecursion (AreLive new_ids n) rss
    all_freed [] all = tt
    all_freed (rs ∷ rss) all = (live_freed rs all.0, all_freed rss all.1)

    has_still : (q : ℕ) (a : Ref) → (r.name == a.name) ≡ false → HasNode m q a → HasNode n q a
    has_still q a ne h = record {
      value = h.value;
      is = value_beside a.name ne ∙ h.is;
      id = h.id;
      held = ref-without m r.name a.name ∙ ap (λ b. cond b None (ref_of m a.name)) ne ∙ h.held;
    }

    not_gone : (a : IdEntry) → get new_ids e ≡ Some a → ⊥
    not_gone a here = none_some (sym (get_gone ids e) ∙ here)

    gone_ref : (a : Ref) → (r.name == a.name) ≡ true → IsHeld n a → ⊥
    gone_ref a same h = none_some (sym (ref-without m r.name a.name ∙ ap (λ b. cond b None (ref_of m a.name)) same) ∙ h)

    held_before : (a : Ref) → IsHeld n a → IsHeld m a
    held_before a h =
        elim (eqb_tells r.name a.name) [
          | inl same ↦ absurd (gone_ref a same.0 h)
          | inr isnt ↦ sym (ref-without m r.name a.name ∙ ap (λ b. cond b None (ref_of m a.name)) isnt.0) ∙ h
        ]

    -- all stands after it
    freed_multi : IsMulti s new_ids n xs next arrivals
    freed_multi = record {
      rss = is.rss;
      stand = stands;
      kinds = is.kinds;
      live = all_freed is.rss is.live;
      held = λ q a here.
          elim (eqb_tells q e) [
            | inl it ↦ absurd (not_gone a (sym (ap (get new_ids) it.1) ∙ here))
            | inr isnt ↦ (let was : get ids q ≡ Some a = sym (others q isnt.1) ∙ here in has_still q a.node (apart q a isnt.1 was) (is.held q a was))
          ];
      owned = λ a h.
          let was = is.owned a (held_before a h) in
          elim (eqb_tells was.0 e) [
            | inl it ↦
                let same : record { node = r; live = false } ≡ was.1 = some_is (sym there ∙ sym (ap (get ids) it.1) ∙ was.2) in
                let at : r ≡ a = ap (λ (w : IdEntry). w.node) same ∙ was.3 in
                absurd (gone_ref a (itself (ap (λ (w : Ref). w.name) at)) h)
            | inr isnt ↦ (was.0, was.1, others was.0 isnt.1 ∙ was.2, was.3)
          ];
      is_data = subst (IsData s) (sym freed_seen) (settled_data s (Erased (record { id = e; at = r }) None) d is.is_data);
      next_fits = is.next_fits;
      arrivals_fit = is.arrivals_fit;
      few =
          let less : len new_ids ≤ len ids = subst (λ w. w ≤ len ids) (sym (len-remove nat_cmp_total ids e))
          (elim (is_some (get ids e)) as (λ b. cond {A = ℕ} b (len ids - 1) (len ids) ≤ len ids) [ true ↦ omega arith | false ↦ omega arith ]) in
          let f : len ids ≤ 2 ^ 31 = is.few in omega arith;
    }

  -- the same by what a call that frees the node answers
  module _ (p : Pooled Stored) (ys : List Structure) (pool : p ≡ n) (items : ys ≡ xs)
      (stand : (rss : List (List Ref)) → AllStand xs 0 m rss → IsOutOfAll r.name rss → AllStand ys 0 p rss) where
    stands_freed : AllStand xs 0 n is.rss
    stands_freed = subst (λ (t : Type 0). t) (λ j. AllStand (items j) 0 (pool j) is.rss) (stand is.rss is.stand out)

    pub given_seen : plain_of s new_ids p ys next arrivals ≡ record d { kept = left_out e d.kept }
    given_seen = (λ j. plain_of s new_ids (pool j) (items j) next arrivals) ∙ freed_seen stands_freed

    pub given_multi : IsMulti s new_ids p ys next arrivals
    given_multi = subst (λ (t : Type 0). t) (λ j. IsMulti s new_ids (sym pool j) (sym items j) next arrivals) (freed_multi stands_freed)
