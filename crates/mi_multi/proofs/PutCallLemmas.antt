-- What the calls that put another record ask and answer, by what contracts see of the container.
-- Cited by `MultiIndex::changed_by`, `MultiIndex::changed_by_edits`, `MultiIndex::edited`, `MultiIndex::live_row` and 6 more.
use Rattle.std.proofs.Common.{◌≡◌, ℕ, ◌+◌, ◌^◌, ◌<◌, Bool, true, false, not, List, ◌++◌, ◌∷◌, length, slice_get, refl, ap, sym, ◌∙◌, subst}
use Rattle.std.specs.Ordering.{is_eq}
use Rattle.std.specs.FinMap.{get}
use Rattle.std.specs.declared.option.Option.{Option}
use Rattle.std.specs.declared.option.Option.TheVariants.{None, Some}
use Rattle.mi_value.specs.declared.limits.TheConstants.{LAST_COUNT}
use Rattle.mi_value.specs.declared.value.Value.{Value}
use Rattle.mi_value.specs.Order.{compare_key}
use Rattle.mi_catalog.specs.Shape.{index_at}
use Rattle.mi_node.specs.Pool.{Pooled, IsHeld, value_of}
use Rattle.mi_node.specs.Refs.{Ref}
use Rattle.mi_order.specs.declared.stored.Stored.{Stored}
use Rattle.mi_node.specs.declared.old_place.OldPlace.{OldPlace as Place}
use Rattle.mi_index.specs.declared.structure.Structure.{Structure}
use Rattle.mi_index.specs.Standing.{slot_in, Stands}
use Rattle.mi_index.specs.Looks.{IsPlaceOf}
use Rattle.mi_index.specs.Rekeying.{rekeying, rekeyed, IsRekeyed}
use Rattle.mi_index.specs.Pass.{AllStand, AllCan, AllLike, AreReady}
use Rattle.mi_container.specs.Data.{order_at, content_of, stamp_of, as_table}
use Rattle.mi_container.specs.Inverse.{OldPlace, Inverse, old_place, old_places}
use Rattle.mi_container.specs.Inverse.Inverse.{Put}
use Rattle.mi_container.specs.Makes.{Makes}
use Rattle.mi_container.specs.Run.{Allowed}
use Rattle.mi_container.specs.Run.Change.{Replace}
use Rattle.mi_container.specs.Fits.{IsLive}
use Rattle.mi_container.specs.Backs.{row_seen, place_seen}
use Rattle.mi_container.specs.declared.inverse.RowRef.{RowRef as Row}
use Rattle.mi_model.specs.Table.{has, get as get_row}
use Rattle.mi_ids.specs.IdMap.{live_node, node_if_live}
use Rattle.mi_multi.specs.Multi.{own_lists, HasNode, IsMulti, plain_of}
use Rattle.mi_multi.specs.Seen.{Seen, seen_of, AreMulti}
use Rattle.mi_multi.specs.declared.multi.MultiIndex.TheInside.{Inside}
use Rattle.mi_multi.specs.Changed.{is_changed, changed_keys, changed_by}
use Rattle.mi_multi.proofs.ChangedLemmas.{not_not}
use Rattle.mi_multi.proofs.EveryIndexLemmas.{length_orders}
use Rattle.mi_multi.proofs.IndexNumberLemmas.{Numbered, numbered, reaches}
use Rattle.mi_multi.proofs.TakeBackInsertLemmas.{live_there}
use Rattle.mi_multi.proofs.RelocateCallLemmas.{live_row_is}
use Rattle.mi_multi.proofs.AnswerLemmas.{none_has, record_of}
use Rattle.mi_multi.proofs.NewRecordLemmas.{Marked, can_put, put_seen, put_multi, put_inverse_is}
use Rattle.mi_multi.proofs.OldPlaceLemmas as old

module _ (i : Inside) (is : AreMulti i) (w : Seen) (seen : seen_of i ≡ w) (row : Row) (live : IsLive w.plain.rows (row_seen row)) where
  abbrev m : Pooled Stored
  m = i.nodes.pool

  abbrev items : List Structure
  items = i.nodes.structures.items

  row_there : get i.ids.entries row.id ≡ Some (record { node = row.node; live = true })
  row_there = live_there i w seen (row_seen row) live

  pub row_held : IsHeld m row.node
  row_held = (is.held row.id (record { node = row.node; live = true }) row_there).held

  -- its record is that of its node
  pub row_got : (v : Stored) → value_of m row.node.name ≡ Some v → get_row (as_table w.plain) row.id ≡ Some v.row
  row_got v v_is = subst (λ (u : Seen). get_row (as_table u.plain) row.id ≡ Some v.row) seen
      (record_of i.schema i.ids.entries m items i.next i.arrivals row.id row.node v (ap node_if_live row_there) v_is)

  -- as many orders and stamps as indexes
  pub long_orders : length w.plain.orders ≡ length i.schema.indexes
  long_orders = subst (λ (v : Seen). length v.plain.orders ≡ length i.schema.indexes) seen (length_orders i.schema.indexes (own_lists m items))

  pub long_stamps : length (content_of w.plain.rows row.id).stamps ≡ length w.plain.orders
  long_stamps =
      let h = is.held row.id (record { node = row.node; live = true }) row_there in
      subst (λ (v : Seen). length (content_of v.plain.rows row.id).stamps ≡ length v.plain.orders) seen
      (old.long_stamps i.schema i.ids.entries m items i.next i.arrivals is row.id row.node row_there h.value h.id)

  -- marks by the record in its node are those of the row
  pub marks_are : (v : Stored) → value_of m row.node.name ≡ Some v → (new : List Value) → changed_keys i.schema.indexes v.row new ≡ changed_by w row.id new
  marks_are v v_is new =
      subst (λ (u : Seen). changed_keys i.schema.indexes v.row new ≡ changed_by u row.id new) seen
      (ap (λ vs. changed_keys i.schema.indexes vs new)
      (sym (old.values_here i.schema i.ids.entries m items i.next i.arrivals is row.id row.node row_there v v_is)))

  module _ (k : ℕ) (few : k < length w.shape.indexes) where
    few_here : k < length i.schema.indexes
    few_here = subst (λ (v : Seen). k < length v.shape.indexes) (sym seen) few

    pub few_items : k < length items
    few_items = reaches i.schema i.ids.entries m items i.next i.arrivals is k few_here

    module _ (y : Structure) (at : slice_get items k ≡ Some y) where
      abbrev n : Numbered i.schema i.ids.entries m items k y
      n = numbered i.schema i.ids.entries m items i.next i.arrivals is k y at

      pub its_slot : slot_in y ≡ k
      its_slot = n.stood.slot

      pub its_node : (xs : List Ref) × (ys : List Ref) × Stands y m (xs ++ row.node ∷ ys)
      its_node =
          let h = old.has_it i.schema i.ids.entries m items i.next i.arrivals is row.id row.node row_there k y n in
          (h.xs, h.ys, old.stands_with i.schema i.ids.entries m items i.next i.arrivals is row.id row.node row_there k y n)

    abbrev ItsPlace : List Value → Option OldPlace → Type 0
    ItsPlace new p = p ≡ old_place k w.plain.rows row.id (content_of w.plain.rows row.id).values
        new (order_at w.plain.orders k) (stamp_of w.plain.rows k row.id)

    module _ (new : List Value) (changed : Bool)
        (says : changed ≡ is_changed (index_at w.shape k).parts (content_of w.plain.rows row.id).values new) where
      its : HasNode m row.id row.node
      its = is.held row.id (record { node = row.node; live = true }) row_there

      -- the key is that of the record in its node
      key_is : not changed ≡ is_eq (compare_key (index_at i.schema k).parts its.value.row new)
      key_is =
          ap not (subst (λ (u : Seen). changed ≡ is_changed (index_at u.shape k).parts (content_of u.plain.rows row.id).values new) (sym seen) says)
          ∙ not_not (is_eq (compare_key (index_at i.schema k).parts (content_of (seen_of i).plain.rows row.id).values new))
          ∙ ap (λ vs. is_eq (compare_key (index_at i.schema k).parts vs new))
          (old.values_here i.schema i.ids.entries m items i.next i.arrivals is row.id row.node row_there its.value its.is)

      pub no_place : changed ≡ false → ItsPlace new None
      no_place stays =
          subst (λ (u : Seen). None ≡ old_place k u.plain.rows row.id (content_of u.plain.rows row.id).values
          new (order_at u.plain.orders k) (stamp_of u.plain.rows k row.id))
          seen
          (old.no_place i.schema i.ids.entries m items i.next i.arrivals is row.id row.node row_there k few_here its.value its.is new (ap not (sym stays) ∙ key_is))

      module _ (changes : changed ≡ true) (y : Structure) (at : slice_get items k ≡ Some y) (p : Place)
          (place : (xs ys : List Ref) → Stands y m (xs ++ row.node ∷ ys) → IsPlaceOf y m row.node p xs ys) where
        other : false ≡ is_eq (compare_key (index_at i.schema k).parts its.value.row new)
        other = ap not (sym changes) ∙ key_is

        pub some_place : ItsPlace new (Some (place_seen p))
        some_place =
            subst (λ (u : Seen). Some (place_seen p)
            ≡ old_place k u.plain.rows row.id (content_of u.plain.rows row.id).values new (order_at u.plain.orders k) (stamp_of u.plain.rows k row.id))
            seen
            (old.some_place i.schema i.ids.entries m items i.next i.arrivals is row.id row.node row_there k few_here its.value its.is new other y at p place)

        -- the stamp of what is kept is below 2^63
        pub kept_stamp : p.stamp < 2 ^ 63
        kept_stamp =
            old.few_stamp i.schema i.ids.entries m items i.next i.arrivals is row.id row.node row_there k few_here its.value its.is new other y at p place

-- The put

-- a live node is that of its row
pub live_of : (i : Inside) (w : Seen) → seen_of i ≡ w → (e : ℕ) (r : Ref) → live_node i.ids.entries e ≡ Some r → IsLive w.plain.rows (record { id = e; at = r })
live_of i w seen e r here =
    subst (λ (u : Seen). IsLive u.plain.rows (record { id = e; at = r })) seen
    (live_row_is i.schema i.ids.entries i.nodes.pool i.nodes.structures.items i.next i.arrivals e r here)

-- without one there is no row
pub gone_of : (i : Inside) (w : Seen) → seen_of i ≡ w → (e : ℕ) → live_node i.ids.entries e ≡ None → has (as_table w.plain) e ≡ false
gone_of i w seen e none =
    subst (λ (u : Seen). has (as_table u.plain) e ≡ false) seen
    (none_has i.schema i.ids.entries i.nodes.pool i.nodes.structures.items i.next i.arrivals e none)

module _ (i : Inside) (is : AreMulti i) (w : Seen) (seen : seen_of i ≡ w) (e : ℕ) (r : Ref) (live : IsLive w.plain.rows (record { id = e; at = r }))
    (row : List Value) (allowed : Allowed w.shape (Replace e row) w.plain) where
  abbrev v : Stored
  v = record { id = e; row = row }

  abbrev there : get i.ids.entries e ≡ Some (record { node = r; live = true })
  there = row_there i is w seen (record { id = e; node = r }) live

  module _ (marks : List Bool) (marks_are : marks ≡ changed_by w e row) where
    marked : Marked i.schema i.ids.entries i.nodes.pool i.nodes.structures.items i.next i.arrivals is e r there v refl marks
    marked =
        old.marked_by i.schema i.ids.entries i.nodes.pool i.nodes.structures.items i.next i.arrivals is e r there v refl marks
        (subst (λ (u : Seen). marks ≡ changed_by u e row) (sym seen) marks_are)

    can : AllCan (rekeying marks r v i.arrivals) i.nodes.structures.items 0 i.nodes.pool is.rss
    can = can_put i.schema i.ids.entries i.nodes.pool i.nodes.structures.items i.next i.arrivals is e r there v refl marks marked

    pub put_ready : AreReady (rekeying marks r v i.arrivals) 0 i.nodes.structures.items i.nodes.pool
    put_ready = record { rss = is.rss; stand = is.stand; can = can }

    module _ (n : Pooled Stored) (ys : List Structure) (like : AllLike i.nodes.structures.items ys)
        (done : (rss : List (List Ref)) → AllStand i.nodes.structures.items 0 i.nodes.pool rss
        → AllCan (rekeying marks r v i.arrivals) i.nodes.structures.items 0 i.nodes.pool rss
        → IsRekeyed (rekeyed marks r i.arrivals) r v i.nodes.structures.items ys i.nodes.pool n rss) where
      here : Allowed i.schema (Replace e row) (seen_of i).plain
      here = subst (λ (u : Seen). Allowed u.shape (Replace e row) u.plain) (sym seen) allowed

      -- all stands after it
      pub now_multi : w.plain.arrivals < LAST_COUNT → IsMulti i.schema i.ids.entries n ys i.next (i.arrivals + 1)
      now_multi few =
          put_multi i.schema i.ids.entries i.nodes.pool i.nodes.structures.items i.next i.arrivals is e r there v refl marks marked
          n ys like (done is.rss is.stand can) (subst (λ (u : Seen). u.plain.arrivals < LAST_COUNT) (sym seen) few) here

      -- the change and its inverse
      module _ (ps : List (Option OldPlace)) (places : ps
          ≡ old_places 0 w.plain.rows e (content_of w.plain.rows e).values row w.plain.orders (content_of w.plain.rows e).stamps) where
        places_here : ps
            ≡ old_places 0 (seen_of i).plain.rows e (content_of (seen_of i).plain.rows e).values
            row (seen_of i).plain.orders (content_of (seen_of i).plain.rows e).stamps
        places_here = subst (λ (u : Seen). ps
            ≡ old_places 0 u.plain.rows e (content_of u.plain.rows e).values row u.plain.orders (content_of u.plain.rows e).stamps)
            (sym seen) places

        pub now_made : (old_ : Stored) → value_of i.nodes.pool r.name ≡ Some old_ → (undo : Inverse)
            → undo ≡ Put (record { id = e; at = r }) (record { values = old_.row; places = ps })
            → Makes w.shape (Replace e row) w.plain undo (plain_of i.schema i.ids.entries n ys i.next (i.arrivals + 1))
        now_made old_ old_is undo undo_is =
            subst (λ (u : Seen). Makes u.shape (Replace e row) u.plain undo (plain_of i.schema i.ids.entries n ys i.next (i.arrivals + 1))) seen
            (record {
              allowed = here;
              changed_data = put_seen i.schema i.ids.entries i.nodes.pool i.nodes.structures.items i.next
                  i.arrivals is e r there v refl marks marked n ys like (done is.rss is.stand can);
              inverse = undo_is
                  ∙ put_inverse_is i.schema i.ids.entries i.nodes.pool i.nodes.structures.items i.next
                  i.arrivals is e r there v refl old_ old_is ps places_here;
            })
