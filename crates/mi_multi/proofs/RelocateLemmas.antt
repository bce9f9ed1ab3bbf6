-- A row moves in one sequenced index: what the pool and the structures say then are the data with it there, and all stands.
-- Cited by `MultiIndex::stand_before`.
use Rattle.std.proofs.Common.{◌≡◌, ◌≢◌, ℕ, ◌+◌, ◌≤◌, Bool, true, false, cond, inl, inr, List, []}
use Rattle.std.proofs.Common.{◌∷◌, ◌++◌, get_or, set, refl, ap, sym, ◌∙◌, subst, arith}
use Rattle.std.specs.Prelude.{◌==◌}
use Rattle.std.specs.List.{AllByRecursion}
use Rattle.std.specs.Option.{option_map, option_and_then}
use Rattle.std.specs.Ordering.{nat_cmp}
use Rattle.std.specs.FinMap.{FinMap, get, entries}
use Rattle.std.proofs.lemmas.List.{append-nil}
use Rattle.std.proofs.lemmas.Bool.{false≢true}
use Rattle.std.proofs.lemmas.Bool.Decides.{eqb_tells}
use Rattle.std.specs.declared.option.Option.{Option}
use Rattle.std.specs.declared.option.Option.TheVariants.{None, Some}
use Rattle.mi_value.specs.declared.compare.KeyPart.{KeyPart}
use Rattle.mi_catalog.specs.declared.index.Index.{Index}
use Rattle.mi_catalog.specs.declared.index.IndexKind.{IndexKind}
use Rattle.mi_catalog.specs.declared.index.IndexKind.TheVariants as kinds
use Rattle.mi_catalog.specs.Kinds.{is_sequenced}
use Rattle.mi_catalog.specs.Shape.{Shape}
use Rattle.mi_model.specs.Table.{times}
use Rattle.mi_model.specs.Change.{stand, without}
use Rattle.mi_node.specs.Pool.{Pooled, link_of}
use Rattle.mi_node.specs.Refs.{Ref, first_of}
use Rattle.mi_node.specs.declared.link.Link.{Link as Line}
use Rattle.mi_order.specs.declared.stored.Stored.{Stored}
use Rattle.mi_index.specs.declared.structure.Structure.{Structure}
use Rattle.mi_index.specs.declared.structure.Structure.TheVariants.{Sorted, Hashed, Sequenced}
use Rattle.mi_index.specs.Standing.{slot_in}
use Rattle.mi_index.specs.Pass.{AllCan, AllLike, AreChanged, IsPass}
use Rattle.mi_index.specs.Inserting.{relocating_at, relocated_at as moves_to, IsPlace, CanRelocate, CanRelocateIf, IsRelocated, IsRelocatedIf}
use Rattle.mi_container.specs.Data.{Data, Order, has_stamps, IsData}
use Rattle.mi_container.specs.Data.Order.{ById, ByKey, ByHash, Listed}
use Rattle.mi_container.specs.Changes.{sorted_order, in_order, moved_order}
use Rattle.mi_container.specs.declared.inverse.RowRef.{RowRef as Row}
use Rattle.mi_container.specs.Inverse.{RowRef}
use Rattle.mi_container.specs.Backs.{row_seen}
use Rattle.mi_container.specs.Fits.{HasOwnList, IsOther}
use Rattle.mi_container.proofs.PairLemmas.{none_some, some_is, is_itself, is_other}
use Rattle.mi_container.proofs.SequenceLemmas.{lacks_of_times, lacks_left}
use Rattle.mi_model.proofs.ViewLaws.{Lacks}
use Rattle.mi_ids.specs.declared.entry.IdEntry.{IdEntry}
use Rattle.mi_multi.specs.Physical.{order_of, orders_of, plan, live_in, picked}
use Rattle.mi_multi.specs.Alike.{SaysSame, IsAltered}
use Rattle.mi_multi.specs.Multi.{id_at, ids_at, own_list, own_lists, is_live, AreLive, HasNode, IsMulti, plain_of}
use Rattle.mi_multi.specs.Seen.{Seen, seen_of}
use Rattle.mi_multi.specs.declared.multi.MultiIndex.TheInside.{Inside}
use Rattle.mi_multi.proofs.MarkedIdLemmas.{same_ids_multi, same_refs, same_live}
use Rattle.mi_multi.proofs.RowLemmas.{picked_still}
use Rattle.mi_multi.proofs.ListLemmas.{itself, LacksIf, stand_there, times_middle, without_middle}
use Rattle.mi_multi.proofs.SameNodeLemmas.{node_same, live_alike, kept_still}
use Rattle.mi_multi.proofs.OrderLemmas.{orders_set, orders_same}
use Rattle.mi_multi.proofs.EveryIndexLemmas.{Turned, Every, At, at, every, all_after, all_for, seq_by, has_plan, at_stamps}
use Rattle.mi_multi.proofs.EveryIndexLemmas.{sorted_not_sequenced, hashed_not_sequenced, one, none}
use Rattle.mi_multi.proofs.LiveNodeLemmas.{IsLiveRef, found, holds, id_of, lacks_middle, names_apart, out_of_all, ids_same, all_left, all_right, all_append}
use Rattle.mi_multi.proofs.NeighbourLemmas.{ids_append}
use Rattle.mi_multi.proofs.ReturnLemmas.{Now, standing}
use Rattle.mi_multi.proofs.TakeBackInsertLemmas.{live_there}

-- An index that has a list is sequenced

sorted_unlisted : (ps : List KeyPart) → HasOwnList (sorted_order ps) → ⊥
sorted_unlisted [] l = l
sorted_unlisted (p ∷ ps) l = l

listed_kind : (k : IndexKind) (ps : List KeyPart) (l : List ℕ) → HasOwnList (order_of k ps l) → is_sequenced k ≡ true
listed_kind kinds.Ordered ps l is = absurd (sorted_unlisted ps is)
listed_kind kinds.Ranked ps l is = absurd (sorted_unlisted ps is)
listed_kind kinds.Hashed ps l is = absurd is
listed_kind kinds.Sequenced ps l is = refl

unstamped : (o : Order) → HasOwnList o → has_stamps o ≡ false
unstamped ById l = absurd l
unstamped (ByKey ps) l = absurd l
unstamped (ByHash ps) l = absurd l
unstamped (Listed ids) l = refl

-- the node is that of the live row that is given, which is another one
abbrev pub IsOtherNode : FinMap nat_cmp IdEntry → ℕ → Option ℕ → Option Ref → Type 0
IsOtherNode ids e None None = Unit {0}
IsOtherNode ids e None (Some f) = ⊥
IsOtherNode ids e (Some q) None = ⊥
IsOtherNode ids e (Some q) (Some f) = (get ids q ≡ Some (record { node = f; live = true })) × (q ≢ e)

module _ (s : Shape) (ids : FinMap nat_cmp IdEntry) (m : Pooled Stored) (xs : List Structure)
    (next arrivals : ℕ) (is : IsMulti s ids m xs next arrivals) (e : ℕ) (r : Ref)
    (there : get ids e ≡ Some (record { node = r; live = true })) (x : ℕ) (listed : HasOwnList (get_or (plain_of s ids m xs next arrivals).orders x ById))
    (q : Option ℕ) (b : Option Ref) (other : IsOtherNode ids e q b) where
  abbrev os : List Order
  os = plan s.indexes

  abbrev d : Data
  d = plain_of s ids m xs next arrivals

  mine : HasNode m e r
  mine = is.held e (record { node = r; live = true }) there

  id : id_at m r ≡ e
  id = id_of ids m e (record { node = r; live = true }) mine

  -- Before

  -- how often another id stands among the others
  times_others : (w : ℕ) (as_ bs : List Ref) → times w (ids_at m (as_ ++ r ∷ bs)) ≡ cond (id_at m r == w) 1 0 + times w (ids_at m (as_ ++ bs))
  times_others w as_ bs = times_middle (id_at m) w as_ r bs

  all_others : (as_ bs : List Ref) → AllByRecursion (IsLiveRef ids m) (as_ ++ r ∷ bs) → AllByRecursion (IsLiveRef ids m) (as_ ++ bs)
  all_others as_ bs all =
      let tail : AllByRecursion (IsLiveRef ids m) (r ∷ bs) = all_right (IsLiveRef ids m) as_ (r ∷ bs) all in
      all_append (IsLiveRef ids m) as_ bs (all_left (IsLiveRef ids m) as_ (r ∷ bs) all) tail.1

  spot : (rs as_ bs : List Ref) → AreLive ids m rs → rs ≡ as_ ++ r ∷ bs → (w : Option ℕ) (f : Option Ref) → IsOtherNode ids e w f → IsPlace r f (as_ ++ bs)
  spot rs as_ bs live parts None None o = inr (as_ ++ bs, [], sym (append-nil (as_ ++ bs)), refl)
  spot rs as_ bs live parts None (Some f) o = absurd o
  spot rs as_ bs live parts (Some w) None o = absurd o
  spot rs as_ bs live parts (Some w) (Some f) o =
      let one_ : times w (ids_at m (as_ ++ r ∷ bs)) ≡ 1 = ap (λ k. times w (ids_at m k)) (sym parts)
      ∙ live.each w ∙ ap (λ a. cond {A = ℕ} (is_live a) 1 0) o.0 in
      let none_ : cond {A = ℕ} (id_at m r == w) 1 0 ≡ 0 = ap (λ t. cond {A = ℕ} t 1 0) (is_other (id_at m r) w (λ same. o.1 (sym same ∙ id))) in
      let all : times w (ids_at m (as_ ++ r ∷ bs)) ≡ cond (id_at m r == w) 1 0 + times w (ids_at m (as_ ++ bs)) = times_others w as_ bs in
      let h = found ids m w f (as_ ++ bs) o.0 (all_others as_ bs (subst (AllByRecursion (IsLiveRef ids m)) parts live.rows)) (omega arith) in
      inr (h.xs, f ∷ h.ys, h.parts, refl)

  can_here : (i : Index) (y : Structure) (rs : List Ref) → HasOwnList (order_of i.kind i.parts (own_list m y)) → AreLive ids m rs
      → (k : ℕ) (z : Structure) (us : List Ref) → Now s ids m xs next arrivals is k i y z rs us → CanRelocate y r b rs
  can_here i (Sorted t) rs l live k z us h = absurd (sorted_not_sequenced i.kind h.0.for_.0 (listed_kind i.kind i.parts (own_list m (Sorted t)) l))
  can_here i (Hashed c) rs l live k z us h = absurd (hashed_not_sequenced i.kind h.0.for_.0 (listed_kind i.kind i.parts (own_list m (Hashed c)) l))
  can_here i (Sequenced a) rs l live k z us h = let w = holds ids m e r rs there live in (w.xs, w.ys, w.parts, spot rs w.xs w.ys live w.parts q b other)

  can_in : (k : ℕ) (i : Index) (y z : Structure) (rs us : List Ref) → Now s ids m xs next arrivals is k i y z rs us → CanRelocateIf (k == x) y r b rs
  can_in k i y z rs us h =
      elim (eqb_tells k x) [
        | inl same ↦ subst (λ t. CanRelocateIf t y r b rs) (sym same.0)
            (can_here i y rs (subst HasOwnList (ap (λ w. get_or d.orders w ById) (sym same.1) ∙ h.1.order_is) listed) h.0.live k z us h)
        | inr isnt ↦ subst (λ t. CanRelocateIf t y r b rs) (sym isnt.0) tt
      ]

  all_can : {k : ℕ} {js : List Index} {as_ bs : List Structure} {rss uss : List (List Ref)}
      → Every (Now s ids m xs next arrivals is) k js as_ bs rss uss → AllCan (relocating_at x r b) as_ k m rss
  all_can none = tt
  all_can (one {s = k} {i = i} {x = y} {y = z} {rs = rs} {us = us} h rest) = (can_in k i y z rs us h, all_can rest)

  -- it may move there
  pub can_move : AllCan (relocating_at x r b) xs 0 m is.rss
  can_move = all_can (standing s ids m xs next arrivals is)

  -- After

  module _ (n : Pooled Stored) (ys : List Structure) (like : AllLike xs ys) (pass : IsPass (relocating_at x r b) (moves_to x r b) r 0 xs ys m n) where
    changed : AreChanged (moves_to x r b) r 0 xs ys m n is.rss
    changed = pass is.rss is.stand can_move

    turns : Every (Turned (moves_to x r b) ids m n) 0 s.indexes xs ys is.rss changed.uss
    turns = every (moves_to x r b) ids m n 0 s.indexes xs ys is.rss changed.uss is.kinds like is.stand changed.stand changed.done is.live

    link_still : (t : Bool) (y : Structure) (rs us : List Ref) (k w : ℕ) → t ≡ false
        → slot_in y ≡ w → IsRelocatedIf t y m n r b rs us → link_of n k w ≡ link_of m k w
    link_still true y rs us k w no_ slot done = absurd (false≢true (sym no_))
    link_still false y rs us k w no_ slot done = subst (λ a. link_of n k a ≡ link_of m k a) slot (done.links k)

    stamp_of_slot : (y : ℕ) (o : Order) → At (Turned (moves_to x r b) ids m n) y o → y ≢ x → (k : ℕ) → link_of n k y ≡ link_of m k y
    stamp_of_slot y o (at i a c rs us l t is_order) ne k = link_still (y == x) a rs us k y (is_other y x ne) t.slot t.done

    says : (k : ℕ) → SaysSame os m n k
    says k = record {
      value = changed.keeps.values k;
      stamps = λ y has.
          let ne : y ≢ x = λ same. false≢true (sym (unstamped (get_or d.orders x ById) listed)
          ∙ ap (λ w. has_stamps (get_or d.orders w ById)) (sym same) ∙ has_plan s.indexes (own_lists m xs) y ∙ has) in
          ap (λ (w : Line). w.tag.stamp) (stamp_of_slot y (get_or os y ById) (at_stamps (Turned (moves_to x r b) ids m n) turns y has) ne k);
    }

    altered : IsAltered os ids m n e
    altered = record {
      says = λ w a ne here. says a.node.name;
      kept = λ w a ne here dead t. changed.keeps.other_nodes a.node.name t (names_apart m w e a.node r (is.held w a here) mine ne)
          (out_of_all ids m w a is.rss here dead (is.held w a here) is.live);
    }

    rows_still : picked (live_in n os) (entries ids) ≡ d.rows
    rows_still =
        picked_still (live_in m os) (live_in n os) ids ids e (λ w ne. refl) (live_alike os ids m n e altered)
        (ap (option_and_then (live_in n os)) there ∙ ap Some (node_same os m n r (says r.name)) ∙ sym (ap (option_and_then (live_in m os)) there))

    -- The list in which it moves

    names_it : (w : Option ℕ) (f : Option Ref) → IsOtherNode ids e w f → option_map (id_at m) f ≡ w
    names_it None None o = refl
    names_it None (Some f) o = absurd o
    names_it (Some w) None o = absurd o
    names_it (Some w) (Some f) o = ap Some (id_of ids m w (record { node = f; live = true }) (is.held w (record { node = f; live = true }) o.0))

    not_itself : (w : Option ℕ) (f : Option Ref) → IsOtherNode ids e w f → f ≡ Some r → ⊥
    not_itself None None o same = none_some same
    not_itself None (Some f) o same = o
    not_itself (Some w) None o same = o
    not_itself (Some w) (Some f) o same = o.1 (sym (some_is (names_it (Some w) (Some f) o)) ∙ ap (id_at m) (some_is same) ∙ id)

    -- the first behind the place isn't before it
    lacks_first : (rs as_ bs ps qs : List Ref) → AreLive ids m rs → rs ≡ as_ ++ r ∷ bs → as_ ++ bs ≡ ps ++ qs → LacksIf (id_at m) (first_of qs None) ps
    lacks_first rs as_ bs ps [] live parts same = tt
    lacks_first rs as_ bs ps (y ∷ qs) live parts same =
        let w : ℕ = id_at m y in
        let here : cond {A = ℕ} (id_at m y == w) 1 0 ≡ 1 = ap (λ t. cond {A = ℕ} t 1 0) (is_itself w) in
        let most : times w (ids_at m (as_ ++ r ∷ bs)) ≤ 1 =
        subst (λ k. k ≤ 1) (sym (live.each w) ∙ ap (λ k. times w (ids_at m k)) parts)
        (elim (is_live (get ids w)) as (λ t. cond {A = ℕ} t 1 0 ≤ 1) [ true ↦ omega arith | false ↦ omega arith ]) in
        let all : times w (ids_at m (as_ ++ r ∷ bs)) ≡ cond (id_at m r == w) 1 0 + times w (ids_at m (as_ ++ bs)) = times_others w as_ bs in
        let again : times w (ids_at m (as_ ++ bs)) ≡ times w (ids_at m (ps ++ y ∷ qs)) = ap (λ k. times w (ids_at m k)) same in
        let rest : times w (ids_at m (ps ++ y ∷ qs)) ≡ cond (id_at m y == w) 1 0 + times w (ids_at m (ps ++ qs)) = times_middle (id_at m) w ps y qs in
        lacks_left w (ids_at m ps) (ids_at m qs) (subst (Lacks w) (ids_append (id_at m) ps qs) (lacks_of_times w (ids_at m (ps ++ qs)) (omega arith)))

    ids_moved : (rs us : List Ref) → AreLive ids m rs → IsRelocated r b rs us → ids_at n us ≡ stand q e (without e (ids_at m rs))
    ids_moved rs us live (inl no_) = absurd (not_itself q b other no_.0)
    ids_moved rs us live (inr w) =
        let whole : AreLive ids m (w.xs ++ r ∷ w.ys) = subst (AreLive ids m) w.was live in
        let left : without e (ids_at m rs) ≡ ids_at m (w.ps ++ w.qs) =
        ap (λ k. without e (ids_at m k)) w.was
        ∙ without_middle (id_at m) e w.xs r w.ys (itself id) (lacks_middle ids m e r w.xs w.ys id there whole) ∙ ap (ids_at m) w.others in
        let named : option_map (id_at m) (first_of w.qs None) ≡ q = ap (option_map (id_at m)) w.at ∙ names_it q b other in
        ids_same m n us changed.keeps.values ∙ ap (ids_at m) w.now
        ∙ sym (stand_there (id_at m) w.ps r w.qs (lacks_first rs w.xs w.ys w.ps w.qs live w.was w.others))
        ∙ (λ i. stand (named i) (id i) (sym left i))

    abbrev goes : ℕ → List ℕ → List ℕ
    goes k = cond {A = List ℕ → List ℕ} (k == x) (λ ids_. stand q e (without e ids_)) (λ ids_. ids_)

    one_goes : (t : Bool) (y : Structure) (rs us : List Ref) → AreLive ids m rs → IsRelocatedIf t y m n r b rs us
        → ids_at n us ≡ cond {A = List ℕ → List ℕ} t (λ ids_. stand q e (without e ids_)) (λ ids_. ids_) (ids_at m rs)
    one_goes true y rs us live done = ids_moved rs us live done
    one_goes false y rs us live done = ids_same m n us changed.keeps.values ∙ ap (ids_at m) done.list

    step : (k : ℕ) (i : Index) (y z : Structure) (rs us : List Ref) → is_sequenced i.kind ≡ true
        → Turned (moves_to x r b) ids m n (0 + k) i y z rs us → ids_at n us ≡ goes k (ids_at m rs)
    step k i y z rs us seq t =
        let zeroed : 0 + k ≡ k = omega arith in one_goes (k == x) y rs us t.live (subst (λ w. moves_to x r b w y m n rs us) zeroed t.done)

    orders_moved : orders_of s.indexes (own_lists n ys) ≡ moved_order x (λ ids_. stand q e (without e ids_)) d.orders
    orders_moved =
        orders_set (λ ids_. ids_) (λ ids_. stand q e (without e ids_)) x goes s.indexes (own_lists m xs) (own_lists n ys)
        (ap (λ t. cond {A = List ℕ → List ℕ} t (λ ids_. stand q e (without e ids_)) (λ ids_. ids_)) (is_itself x))
        (λ k ne. ap (λ t. cond {A = List ℕ → List ℕ} t (λ ids_. stand q e (without e ids_)) (λ ids_. ids_)) (is_other k x ne))
        (seq_by (moves_to x r b) ids m n goes turns step)
        ∙ ap (λ w. set w x (in_order (λ ids_. stand q e (without e ids_)) (get_or d.orders x ById))) (orders_same d.orders)

    -- the data after it
    pub moved_seen : plain_of s ids n ys next arrivals ≡ record d { orders = moved_order x (λ ids_. stand q e (without e ids_)) d.orders }
    moved_seen =
        let kept = kept_still os ids m n e there refl altered in
        (λ i. record { rows = rows_still i; orders = orders_moved i; next = next; arrivals = arrivals; kept = kept i })

    -- Lists

    live_moved : (t : Bool) (y : Structure) (rs us : List Ref) → AreLive ids m rs → IsRelocatedIf t y m n r b rs us → AreLive ids n us
    live_moved false y rs us live done = same_live ids m n changed.keeps.values rs us live done.list
    live_moved true y rs us live (inl no_) = same_live ids m n changed.keeps.values rs us live no_.1
    live_moved true y rs us live (inr w) =
        let rows_ : AllByRecursion (IsLiveRef ids m) (w.ps ++ w.qs) = subst (AllByRecursion (IsLiveRef ids m))
        w.others (all_others w.xs w.ys (subst (AllByRecursion (IsLiveRef ids m)) w.was live.rows)) in
        let here : IsLiveRef ids m r = ap (get ids) id ∙ there in
        let now_ : AllByRecursion (IsLiveRef ids m) us = subst (AllByRecursion (IsLiveRef ids m)) (sym w.now)
        (all_append (IsLiveRef ids m) w.ps (r ∷ w.qs) (all_left (IsLiveRef ids m) w.ps w.qs rows_) (here, all_right (IsLiveRef ids m) w.ps w.qs rows_)) in
        record {
          rows = same_refs ids m n changed.keeps.values us now_;
          each = λ k. ap (times k) (ids_same m n us changed.keeps.values ∙ ap (ids_at m) w.now) ∙ times_middle (id_at m) k w.ps r w.qs
              ∙ ap (λ a. cond (id_at m r == k) 1 0 + times k (ids_at m a)) (sym w.others)
              ∙ sym (times_others k w.xs w.ys) ∙ ap (λ a. times k (ids_at m a)) (sym w.was) ∙ live.each k;
        }

    all_live : AllByRecursion (AreLive ids n) changed.uss
    all_live = all_after (Turned (moves_to x r b) ids m n) (AreLive ids n) (λ k i y z rs us t. live_moved (k == x) y rs us t.live t.done) turns

    -- all stands after it
    pub moved_multi : IsData s (record d { orders = moved_order x (λ ids_. stand q e (without e ids_)) d.orders }) → IsMulti s ids n ys next arrivals
    moved_multi data_ = same_ids_multi s ids m n xs ys next arrivals is changed.keeps.refs changed.keeps.values changed.uss
        changed.stand (all_for s.indexes xs ys like is.kinds) all_live (subst (IsData s) (sym moved_seen) data_)

-- the row that an inverse names
pub other_node : (i : Inside) (w : Seen) → seen_of i ≡ w → (e : ℕ) (b : Option Row) → IsOther w.plain.rows e (option_map row_seen b)
    → IsOtherNode i.ids.entries e (option_map (λ (p : RowRef). p.id) (option_map row_seen b)) (option_map (λ r. (row_seen r).at) b)
other_node i w seen e None o = tt
other_node i w seen e (Some r) o = (live_there i w seen (row_seen r) o.0, o.1)
