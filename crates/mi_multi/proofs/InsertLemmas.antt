-- A new row may come into every index: by the next stamp, which no node has.
-- Cited by `MultiIndex::insert_accepted`, `AcceptLemmas`, `InsertedLemmas`, `NewRecordLemmas` and `RoomLemmas`.
use Rattle.std.proofs.Common.{◌≡◌, ◌≢◌, ℕ, ◌^◌, ◌<◌, ◌≤◌, Bool, true, false, cond, List, [], ◌∷◌, ◌++◌, get_or, length, refl, ap, sym, ◌∙◌, subst, arith}
use Rattle.std.specs.Prelude.{◌==◌}
use Rattle.std.specs.List.{AllByRecursion}
use Rattle.std.specs.Option.{option_and_then}
use Rattle.std.specs.Ordering.{nat_cmp}
use Rattle.std.specs.FinMap.{FinMap, get, len}
use Rattle.std.proofs.lemmas.List.{append-nil}
use Rattle.std.specs.declared.cmp.Ordering.TheVariants.{Equal}
use Rattle.std.specs.declared.option.Option.{Option}
use Rattle.std.specs.declared.option.Option.TheVariants.{None, Some}
use Rattle.mi_value.specs.declared.compare.KeyPart.{KeyPart}
use Rattle.mi_catalog.specs.declared.index.Index.{Index}
use Rattle.mi_catalog.specs.Shape.{Shape}
use Rattle.mi_node.specs.Pool.{Pooled, link_of}
use Rattle.mi_node.specs.Refs.{Ref, first_of}
use Rattle.mi_tree.specs.Sorted.{NoneAre}
use Rattle.mi_chain.specs.Keying.{stamp_at}
use Rattle.mi_order.specs.declared.stored.Stored.{Stored}
use Rattle.mi_index.specs.declared.structure.Structure.{Structure}
use Rattle.mi_index.specs.declared.structure.Structure.TheVariants.{Sorted, Hashed, Sequenced}
use Rattle.mi_index.specs.Orders.{stored_order}
use Rattle.mi_index.specs.Places.{before_at, NoneHas}
use Rattle.mi_index.specs.Rekeying.{side_of_value, HasPlaceFor}
use Rattle.mi_index.specs.Pass.{AllCan}
use Rattle.mi_index.specs.Inserting.{coming_in}
use Rattle.mi_container.specs.Data.{Data, Order, has_stamps}
use Rattle.mi_container.specs.Data.Order.{ById}
use Rattle.mi_container.proofs.PairLemmas.{none_some, climbs_none}
use Rattle.mi_container.proofs.InvariantLemmas.{rows_climb, stamp_early}
use Rattle.mi_ids.specs.declared.entry.IdEntry.{IdEntry}
use Rattle.mi_multi.specs.Physical.{plan, node_in, kept_node_in, live_in, kept_in}
use Rattle.mi_multi.specs.Multi.{id_at, own_lists, AreLive, IsMulti, plain_of}
use Rattle.mi_multi.proofs.PickLemmas.{get_picked}
use Rattle.mi_multi.proofs.EveryIndexLemmas.{Every, one, none, sorted_parts, hashed_order, has_plan}
use Rattle.mi_multi.proofs.LiveNodeLemmas.{IsLiveRef, holds, node_live}
use Rattle.mi_multi.proofs.StampLemmas.{stamp_row}
use Rattle.mi_multi.proofs.CountLemmas.{no_longer}
use Rattle.mi_multi.proofs.PlaceLemmas.{value_not_equal}
use Rattle.mi_multi.proofs.ReturnLemmas.{Now, standing, has_sorted}

-- the node that is given is that of the live id that is given
abbrev pub IsBefore : FinMap nat_cmp IdEntry → Option (ℕ × ℕ) → Option (ℕ × Ref) → Type 0
IsBefore ids None None = Unit {0}
IsBefore ids None (Some b) = ⊥
IsBefore ids (Some p) None = ⊥
IsBefore ids (Some p) (Some b) = (b.0 ≡ p.0) × (get ids p.1 ≡ Some (record { node = b.1; live = true }))

neither : (m : Pooled Stored) (os : List Order) (a : IdEntry) (b : Bool)
    → cond b (Some (node_in m os a.node)) None ≡ None → cond b None (Some (kept_node_in m os a.node)) ≡ None → ⊥
neither m os a true p q = none_some (sym p)
neither m os a false p q = none_some (sym q)

no_entry : (m : Pooled Stored) (os : List Order) (o : Option IdEntry)
    → option_and_then (live_in m os) o ≡ None → option_and_then (kept_in m os) o ≡ None → o ≡ None
no_entry m os None p q = refl
no_entry m os (Some a) p q = absurd (neither m os a a.live p q)

module _ (s : Shape) (ids : FinMap nat_cmp IdEntry) (m : Pooled Stored) (xs : List Structure) (next arrivals : ℕ) (is : IsMulti s ids m xs next arrivals) where
  abbrev os : List Order
  os = plan s.indexes

  abbrev d : Data
  d = plain_of s ids m xs next arrivals

  -- the next id is no id yet
  pub fresh : get ids next ≡ None
  fresh =
      no_entry m os (get ids next) (sym (get_picked (live_in m os) ids next) ∙ climbs_none next next d.rows (rows_climb s d is.is_data) (omega arith))
      (sym (get_picked (kept_in m os) ids next) ∙ climbs_none next next d.kept is.is_data.kept (omega arith))

  pub not_next : (q : Ref) → IsLiveRef ids m q → next ≢ id_at m q
  not_next q live same = none_some (sym fresh ∙ ap (get ids) same ∙ live)

  -- each stamp is earlier than the next
  early : (k : ℕ) (q : Ref) → IsLiveRef ids m q → k < length os → has_stamps (get_or os k ById) ≡ true → (link_of m q.name k).tag.stamp < arrivals
  early k q live l has =
      subst (λ w. w < arrivals) (stamp_row ids m os k q live l has)
      (stamp_early s d is.is_data k (has_plan s.indexes (own_lists m xs) k ∙ has) (id_at m q) (node_in m os q, node_live ids m os q live))

  pub later : (k : ℕ) (q : Ref) → IsLiveRef ids m q → k < length os → has_stamps (get_or os k ById) ≡ true → arrivals ≢ (link_of m q.name k).tag.stamp
  later k q live l has same = let e : (link_of m q.name k).tag.stamp < arrivals = early k q live l has in absurd (omega arith)

  module _ (v : Stored) (new : v.id ≡ next) (at : Option (ℕ × ℕ)) (before : Option (ℕ × Ref)) (place : IsBefore ids at before) where
    none_are : (ps : List KeyPart) (k : ℕ) (qs : List Ref) → AllByRecursion (IsLiveRef ids m) qs
        → (ps ≢ [] → has_stamps (get_or os k ById) ≡ true) → k < length os
        → NoneAre (side_of_value (stored_order ps) m k v arrivals) Equal qs
    none_are ps k [] all has l = tt
    none_are ps k (q ∷ qs) all has l = (
      value_not_equal ps m k q arrivals v (id_at m q) (is.held (id_at m q) (record { node = q; live = true }) all.0)
          (λ same. not_next q all.0 (sym new ∙ same)) (λ some. later k q all.0 l (has some)),
      none_are ps k qs all.1 has l,
    )

    none_has : (k : ℕ) (qs : List Ref) → AllByRecursion (IsLiveRef ids m) qs
        → has_stamps (get_or os k ById) ≡ true → k < length os → NoneHas (stamp_at m k) arrivals qs
    none_has k [] all has l = tt
    none_has k (q ∷ qs) all has l = (later k q all.0 l has, none_has k qs all.1 has l)

    abbrev Spot : Option Ref → List Ref → Type 0
    Spot b rs = (us : List Ref) × (vs : List Ref) × (rs ≡ us ++ vs) × (first_of vs None ≡ b)

    spot_at : (p : ℕ × ℕ) (b : ℕ × Ref) → get ids p.1 ≡ Some (record { node = b.1; live = true })
        → (rs : List Ref) → AreLive ids m rs → (t : Bool) → Spot (cond t (Some b.1) None) rs
    spot_at p b there rs live true = let h = holds ids m p.1 b.1 rs there live in (h.xs, b.1 ∷ h.ys, h.parts, refl)
    spot_at p b there rs live false = (rs, [], sym (append-nil rs), refl)

    spot : (k : ℕ) (rs : List Ref) → AreLive ids m rs → (a : Option (ℕ × ℕ)) (b : Option (ℕ × Ref)) → IsBefore ids a b → Spot (before_at k b) rs
    spot k rs live None None f = (rs, [], sym (append-nil rs), refl)
    spot k rs live None (Some b) f = absurd f
    spot k rs live (Some p) None f = absurd f
    spot k rs live (Some p) (Some b) f = spot_at p b f.1 rs live (b.0 == k)

    place_in : (k : ℕ) (i : Index) (x y : Structure) (rs us : List Ref)
        → Now s ids m xs next arrivals is k i x y rs us → HasPlaceFor x m v arrivals (before_at k before) rs
    place_in k i (Sorted t) y rs us h =
        let slot : t.slot ≡ k = h.0.slot in
        let parts : t.order.parts ≡ i.parts = h.0.for_.1 in
        let plan_is = h.1.plan_is ∙ sorted_parts i.kind i.parts [] h.0.for_.0 in
        subst (λ w. NoneAre (side_of_value (stored_order t.order.parts) m w v arrivals) Equal rs) (sym slot)
        (none_are t.order.parts k rs h.0.live.rows (λ some. ap has_stamps plan_is ∙ has_sorted i.parts (λ none_. some (parts ∙ none_))) h.1.few)
    place_in k i (Hashed c) y rs us h =
        let slot : c.slot ≡ k = h.0.slot in
        let plan_is = h.1.plan_is ∙ hashed_order i.kind i.parts [] h.0.for_.0 in
        subst (λ w. NoneHas (stamp_at m w) arrivals rs) (sym slot) (none_has k rs h.0.live.rows (ap has_stamps plan_is) h.1.few)
    place_in k i (Sequenced l) y rs us h = spot k rs h.0.live at before place

    all_come : {k : ℕ} {js : List Index} {us vs : List Structure} {rss uss : List (List Ref)}
        → Every (Now s ids m xs next arrivals is) k js us vs rss uss → AllCan (coming_in v arrivals before) us k m rss
    all_come none = tt
    all_come (one {s = k} {i = i} {x = x} {y = y} {rs = rs} {us = us} h rest) = (
      record {
        few = let l : length rs ≤ len ids = no_longer ids m rs h.0.live in let f : len ids ≤ 2 ^ 31 = is.few in omega arith;
        place = place_in k i x y rs us h;
      },
      all_come rest,
    )

    -- it may come into every index
    pub can_come : AllCan (coming_in v arrivals before) xs 0 m is.rss
    can_come = all_come (standing s ids m xs next arrivals is)
