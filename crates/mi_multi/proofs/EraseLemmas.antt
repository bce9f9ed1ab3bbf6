-- A row leaves: what the passes leave are the data without it, and all stands again.
-- Cited by `MultiIndex::erase_for`, `MultiIndex::take_back_inserted` and `TakeBackInsertLemmas`.
use Rattle.std.proofs.Common.{◌≡◌, ◌≢◌, ℕ, ◌+◌, true, false, cond, List}
use Rattle.std.proofs.Common.{[], ◌∷◌, ◌++◌, map, refl, ap, sym, ◌∙◌, subst, arith}
use Rattle.std.specs.Prelude.{◌==◌}
use Rattle.std.specs.List.{AllByRecursion}
use Rattle.std.specs.Option.{option_and_then}
use Rattle.std.specs.Ordering.{nat_cmp}
use Rattle.std.specs.FinMap.{FinMap, get, entries}
use Rattle.std.specs.declared.option.Option.TheVariants.{None, Some}
use Rattle.mi_catalog.specs.Shape.{Shape}
use Rattle.mi_model.specs.Table.{times}
use Rattle.mi_model.specs.Change.{without}
use Rattle.mi_node.specs.Pool.{Pooled}
use Rattle.mi_node.specs.Refs.{Ref}
use Rattle.mi_order.specs.declared.stored.Stored.{Stored}
use Rattle.mi_index.specs.declared.structure.Structure.{Structure}
use Rattle.mi_index.specs.declared.moved_indexes.MovedIndexes.TheVariants.{All}
use Rattle.mi_index.specs.Places.{IsWith}
use Rattle.mi_index.specs.Pass.{AllCan, AllLike, AreChanged, IsPass}
use Rattle.mi_index.specs.Passes.{left, leaving}
use Rattle.mi_container.specs.Data.{Data, Order, node_of, IsData}
use Rattle.mi_container.specs.Changes.{in_order, entered, left_out, kept_node, erased, erased_node}
use Rattle.mi_container.specs.Run.Change.{Erase}
use Rattle.mi_container.proofs.PairLemmas.{climbs_some}
use Rattle.mi_container.proofs.InvariantLemmas.{rows_climb}
use Rattle.mi_container.proofs.LawLemmas.{change_is_tables}
use Rattle.mi_ids.specs.declared.entry.IdEntry.{IdEntry}
use Rattle.mi_ids.specs.IdMap.{with_live}
use Rattle.mi_multi.specs.Physical.{stored_id, orders_of, plan, node_in, kept_node_in, live_in, kept_in, picked}
use Rattle.mi_multi.specs.Alike.{SaysSame, IsAltered}
use Rattle.mi_multi.specs.Multi.{id_at, ids_at, own_lists, is_live, AreLive, IsMulti, plain_of}
use Rattle.mi_multi.proofs.PickLemmas.{get_picked}
use Rattle.mi_multi.proofs.RowLemmas.{picked_lost, picked_entered}
use Rattle.mi_multi.proofs.ListLemmas.{itself, without_middle, times_middle}
use Rattle.mi_multi.proofs.SameNodeLemmas.{node_same, live_alike, kept_alike}
use Rattle.mi_multi.proofs.OrderLemmas.{orders_map}
use Rattle.mi_multi.proofs.EveryIndexLemmas.{Turned, Every, every, all_after, all_known, all_for, seq_by}
use Rattle.mi_multi.proofs.LiveNodeLemmas.{IsLiveRef, holds, marked_here, marked_beside, names_apart}
use Rattle.mi_multi.proofs.LiveNodeLemmas.{lacks_middle, out_of_all, ids_same, all_left, all_right, all_append, once_more}
use Rattle.mi_multi.proofs.MarkedIdLemmas.{marked_multi}
use Rattle.mi_multi.proofs.NeighbourLemmas.{id_is}
use Rattle.mi_multi.proofs.LinkLemmas.{says_by_tags, links_seen}

-- the node stands in every index
can_from : (ids : FinMap nat_cmp IdEntry) (m : Pooled Stored) (e : ℕ) (r : Ref) → get ids e ≡ Some (record { node = r; live = true })
    → (s : ℕ) (xs : List Structure) (rss : List (List Ref)) → AllByRecursion (AreLive ids m) rss
    → AllCan (leaving All r) xs s m rss
can_from ids m e r there s [] rss all = tt
can_from ids m e r there s (x ∷ xs) [] all = tt
can_from ids m e r there s (x ∷ xs) (rs ∷ rss) all = (holds ids m e r rs there all.0, can_from ids m e r there (s + 1) xs rss all.1)

pub can_leave : (s : Shape) (ids : FinMap nat_cmp IdEntry) (m : Pooled Stored) (xs : List Structure)
    (next arrivals : ℕ) (is : IsMulti s ids m xs next arrivals) (e : ℕ) (r : Ref)
    → get ids e ≡ Some (record { node = r; live = true }) → AllCan (leaving All r) xs 0 m is.rss
can_leave s ids m xs next arrivals is e r there = can_from ids m e r there 0 xs is.rss is.live

module _ (s : Shape) (ids : FinMap nat_cmp IdEntry) (m n : Pooled Stored) (xs ys : List Structure)
    (next arrivals : ℕ) (is : IsMulti s ids m xs next arrivals) (e : ℕ) (r : Ref)
    (there : get ids e ≡ Some (record { node = r; live = true })) (like : AllLike xs ys) (pass : IsPass (leaving All r) (left All r) r 0 xs ys m n) where
  abbrev os : List Order
  os = plan s.indexes

  abbrev d : Data
  d = plain_of s ids m xs next arrivals

  changed : AreChanged (left All r) r 0 xs ys m n is.rss
  changed = pass is.rss is.stand (can_leave s ids m xs next arrivals is e r there)

  abbrev new_ids : FinMap nat_cmp IdEntry
  new_ids = with_live ids e false

  turns : Every (Turned (left All r) ids m n) 0 s.indexes xs ys is.rss changed.uss
  turns = every (left All r) ids m n 0 s.indexes xs ys is.rss changed.uss is.kinds like is.stand changed.stand changed.done is.live

  says : (k : ℕ) → SaysSame os m n k
  says k = says_by_tags (left All r) ids m n (λ x a rs us done. done.tags) turns k (changed.keeps.values k)

  altered : IsAltered os ids m n e
  altered = record {
    says = λ q a ne here. says a.node.name;
    kept = λ q a ne here dead t.
        changed.keeps.other_nodes a.node.name t (names_apart m q e a.node r (is.held q a here) (is.held e (record { node = r; live = true }) there) ne)
        (out_of_all ids m q a is.rss here dead (is.held q a here) is.live);
  }

  others : (q : ℕ) → q ≢ e → get new_ids q ≡ get ids q
  others = marked_beside ids e (record { node = r; live = true }) false there

  now : get new_ids e ≡ Some (record { node = r; live = false })
  now = marked_here ids e (record { node = r; live = true }) false there

  rows_left : picked (live_in n os) (entries new_ids) ≡ left_out e d.rows
  rows_left = picked_lost (live_in m os) (live_in n os) ids new_ids e others (live_alike os ids m n e altered)
      next (rows_climb s d is.is_data) (ap (option_and_then (live_in n os)) now)

  pub row_is : node_of d.rows e ≡ Some (node_in m os r)
  row_is = get_picked (live_in m os) ids e ∙ ap (option_and_then (live_in m os)) there

  kept_is : kept_node_in n os r ≡ kept_node e (node_in m os r) d
  kept_is =
      let node = node_same os m n r (says r.name) in
      let links = links_seen s ids m n xs next arrivals is.is_data is.held changed.keeps.values e r there (all_known (left All r) ids m n turns) in
      (λ i. record { node = node i; links = sym links i })

  kept_now : picked (kept_in n os) (entries new_ids) ≡ entered e (kept_node e (node_in m os r) d) d.kept
  kept_now =
      picked_entered (kept_in m os) (kept_in n os) ids new_ids e others (kept_alike os ids m n e altered) next
      (kept_node_in n os r) is.is_data.kept (climbs_some next e (node_in m os r) d.rows (rows_climb s d is.is_data) row_is)
      (ap (option_and_then (kept_in m os)) there) (ap (option_and_then (kept_in n os)) now)
      ∙ ap (λ k. entered e k d.kept) kept_is

  ids_left : (rs us : List Ref) → AreLive ids m rs → IsWith r us rs → ids_at n us ≡ without e (ids_at m rs)
  ids_left rs us live w =
      let id : id_at m r ≡ e = id_is ids m n os is.held changed.keeps.values e r there in
      ids_same m n us changed.keeps.values ∙ ap (ids_at m) w.was
      ∙ sym (ap (λ q. without e (ids_at m q)) w.now
      ∙ without_middle (id_at m) e w.xs r w.ys (itself id) (lacks_middle ids m e r w.xs w.ys id there (subst (AreLive ids m) w.now live)))

  orders_left : orders_of s.indexes (own_lists n ys) ≡ map (in_order (without e)) d.orders
  orders_left =
      orders_map (without e) (λ _. without e) s.indexes (own_lists m xs) (own_lists n ys) (λ k. refl)
      (seq_by (left All r) ids m n (λ _. without e) turns (λ k i x y rs us seq t. ids_left rs us t.live t.done.left))

  -- the data after it
  pub erased_seen : plain_of s new_ids n ys next arrivals ≡ erased e d
  erased_seen =
      (λ i. record { rows = rows_left i; orders = orders_left i; next = next; arrivals = arrivals; kept = kept_now i })
      ∙ ap (λ o. erased_node e o d) (sym row_is)

  -- Lists

  live_still : (q : Ref) → IsLiveRef ids m q → id_at m q ≢ e → IsLiveRef new_ids n q
  live_still q live ne = let id : id_at n q ≡ id_at m q = ap stored_id (changed.keeps.values q.name) in ap (get new_ids) id ∙ others (id_at m q) ne ∙ live

  all_still : (qs : List Ref) → AllByRecursion (IsLiveRef ids m) qs → AllByRecursion (λ k. k ≢ e) (ids_at m qs) → AllByRecursion (IsLiveRef new_ids n) qs
  all_still [] all lacks = tt
  all_still (q ∷ qs) all lacks = (live_still q all.0 lacks.0, all_still qs all.1 lacks.1)

  each_left : (rs us : List Ref) → AreLive ids m rs → IsWith r us rs → (q : ℕ) → times q (ids_at n us) ≡ cond (is_live (get new_ids q)) 1 0
  each_left rs us live w q =
      let id : id_at m r ≡ e = id_is ids m n os is.held changed.keeps.values e r there in
      let same : times q (ids_at n us) ≡ times q (ids_at m (w.xs ++ w.ys)) = ap (times q) (ids_same m n us changed.keeps.values ∙ ap (ids_at m) w.was) in
      let parts : times q (ids_at m rs) ≡ cond (id_at m r == q) 1 0 + times q (ids_at m (w.xs ++ w.ys)) =
      ap (λ k. times q (ids_at m k)) w.now ∙ times_middle (id_at m) q w.xs r w.ys in
      let was : times q (ids_at m rs) ≡ cond (is_live (get ids q)) 1 0 = live.each q in
      let more : cond {A = ℕ} (is_live (get ids q)) 1 0 ≡ cond (id_at m r == q) 1 0 + cond (is_live (get new_ids q)) 1 0 =
      once_more ids new_ids e (id_at m r) q id (ap is_live there) (ap is_live now) (λ k ne. sym (others k ne)) in
      omega arith

  live_left : (rs us : List Ref) → AreLive ids m rs → IsWith r us rs → AreLive new_ids n us
  live_left rs us live w =
      let id : id_at m r ≡ e = id_is ids m n os is.held changed.keeps.values e r there in
      let was : AllByRecursion (IsLiveRef ids m) (w.xs ++ r ∷ w.ys) = subst (AllByRecursion (IsLiveRef ids m)) w.now live.rows in
      let tail : AllByRecursion (IsLiveRef ids m) (r ∷ w.ys) = all_right (IsLiveRef ids m) w.xs (r ∷ w.ys) was in
      let both : AllByRecursion (IsLiveRef ids m) (w.xs ++ w.ys) = all_append (IsLiveRef ids m)
      w.xs w.ys (all_left (IsLiveRef ids m) w.xs (r ∷ w.ys) was) tail.1 in
      record {
        rows = subst (AllByRecursion (IsLiveRef new_ids n)) (sym w.was)
            (all_still (w.xs ++ w.ys) both (lacks_middle ids m e r w.xs w.ys id there (subst (AreLive ids m) w.now live)));
        each = each_left rs us live w;
      }

  -- all stands after it
  pub erased_multi : IsMulti s new_ids n ys next arrivals
  erased_multi = marked_multi s ids m n xs next arrivals is e r true false there changed.keeps.refs changed.keeps.values
      ys changed.uss changed.stand (all_for s.indexes xs ys like is.kinds)
      (all_after (Turned (left All r) ids m n) (AreLive new_ids n) (λ k i x y rs us t. live_left rs us t.live t.done.left) turns)
      (subst (IsData s) (sym erased_seen) (change_is_tables s (Erase e None) d is.is_data (node_in m os r, row_is)).0)
