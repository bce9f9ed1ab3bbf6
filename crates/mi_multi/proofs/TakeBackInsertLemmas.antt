-- A new row is taken back: its node leaves every index and is freed.
-- Cited by `MultiIndex::stand_before`, `MultiIndex::take_back_inserted`, `MultiIndex::take_back_put`, `PutCallLemmas` and 3 more.
use Rattle.std.proofs.Common.{◌≡◌, ℕ, ◌-◌, true, false, inl, inr, List, map, ap, sym, ◌∙◌, subst, arith}
use Rattle.std.specs.Ordering.{nat_cmp}
use Rattle.std.specs.FinMap.{FinMap, get, remove, same_map, nat_cmp-IsAntisymmetric}
use Rattle.std.proofs.lemmas.Cmp.{nat_cmp_total}
use Rattle.std.proofs.lemmas.Bool.Decides.{eqb_tells}
use Rattle.std.specs.declared.option.Option.TheVariants.{Some}
use Rattle.mi_catalog.specs.Shape.{Shape}
use Rattle.mi_model.specs.Change.{without}
use Rattle.mi_node.specs.Pool.{Pooled, IsHeld, without as freed}
use Rattle.mi_node.specs.Refs.{Ref}
use Rattle.mi_order.specs.declared.stored.Stored.{Stored}
use Rattle.mi_index.specs.declared.structure.Structure.{Structure}
use Rattle.mi_index.specs.declared.moved_indexes.MovedIndexes.TheVariants.{All}
use Rattle.mi_index.specs.Pass.{AllStand, AllLike, IsPass, IsOutOfAll}
use Rattle.mi_index.specs.Passes.{left, leaving}
use Rattle.mi_container.specs.Data.{Data, IsData, node_of}
use Rattle.mi_container.specs.Changes.{left_out, in_order, kept_node, erased_node}
use Rattle.mi_container.specs.Inverse.{RowRef, taken_back}
use Rattle.mi_container.specs.Inverse.Inverse.{Inserted}
use Rattle.mi_container.specs.Fits.{IsLive}
use Rattle.mi_container.proofs.InvariantLemmas.{unkept}
use Rattle.mi_container.proofs.PairLemmas.{out_entered}
use Rattle.mi_ids.specs.declared.entry.IdEntry.{IdEntry}
use Rattle.mi_ids.specs.IdMap.{with_live}
use Rattle.mi_multi.specs.Physical.{plan, node_in}
use Rattle.mi_multi.specs.Multi.{IsMulti, plain_of}
use Rattle.mi_multi.specs.Seen.{Seen, seen_of}
use Rattle.mi_multi.specs.declared.multi.MultiIndex.TheInside.{Inside}
use Rattle.mi_multi.proofs.RowLemmas.{get_gone, get_left}
use Rattle.mi_multi.proofs.LiveNodeLemmas.{marked_here, marked_beside}
use Rattle.mi_multi.proofs.EraseLemmas.{row_is, erased_seen, erased_multi}
use Rattle.mi_multi.proofs.SettleLemmas.{entry_live, given_seen, given_multi}

-- the entry of a live row that an inverse names
pub live_there : (i : Inside) (w : Seen) → seen_of i ≡ w → (r : RowRef) → IsLive w.plain.rows r
    → get i.ids.entries r.id ≡ Some (record { node = r.at; live = true })
live_there i w seen r live =
    let l = subst (λ (v : Seen). IsLive v.plain.rows r) (sym seen) live in
    (entry_live i.ids.entries i.nodes.pool (plan i.schema.indexes) r.id l.0 l.1).0 ∙ ap (λ q. Some (record { node = q; live = true })) l.2

module _ (s : Shape) (ids : FinMap nat_cmp IdEntry) (m n : Pooled Stored) (xs ys : List Structure)
    (next arrivals : ℕ) (is : IsMulti s ids m xs next arrivals) (e : ℕ) (r : Ref)
    (there : get ids e ≡ Some (record { node = r; live = true })) (like : AllLike xs ys) (pass : IsPass (leaving All r) (left All r) r 0 xs ys m n) where
  abbrev d : Data
  d = plain_of s ids m xs next arrivals

  -- with the node only kept
  left_multi : IsMulti s (with_live ids e false) n ys next arrivals
  left_multi = erased_multi s ids m n xs ys next arrivals is e r there like pass

  kept_now : get (with_live ids e false) e ≡ Some (record { node = r; live = false })
  kept_now = marked_here ids e (record { node = r; live = true }) false there

  pub still_held : IsHeld n r
  still_held = (left_multi.held e (record { node = r; live = false }) kept_now).held

  same_ids : remove (with_live ids e false) e ≡ remove ids e
  same_ids =
      same_map nat_cmp_total nat_cmp-IsAntisymmetric (remove (with_live ids e false) e) (remove ids e)
      (λ q. elim (eqb_tells q e) [
        | inl it ↦ ap (get (remove (with_live ids e false) e)) it.1 ∙ get_gone (with_live ids e false) e ∙ sym (ap (get (remove ids e)) it.1 ∙ get_gone ids e)
        | inr isnt ↦ get_left (with_live ids e false) e q isnt.1
            ∙ marked_beside ids e (record { node = r; live = true }) false there q isnt.1 ∙ sym (get_left ids e q isnt.1)
      ])

  -- by what the call that frees the node answers
  module _ (p : Pooled Stored) (zs : List Structure) (pool : p ≡ freed n r.name) (items : zs ≡ ys)
      (stand : (rss : List (List Ref)) → AllStand ys 0 n rss → IsOutOfAll r.name rss → AllStand zs 0 p rss) where
    abbrev gone : Data
    gone = plain_of s (remove ids e) p zs next arrivals

    there_is : node_of d.rows e ≡ Some (node_in m (plan s.indexes) r)
    there_is = row_is s ids m n xs ys next arrivals is e r there like pass

    gone_seen : gone ≡ record d { rows = left_out e d.rows; orders = map (in_order (without e)) d.orders }
    gone_seen =
        ap (λ q. plain_of s q p zs next arrivals) (sym same_ids)
        ∙ given_seen s (with_live ids e false) n ys next arrivals left_multi e r kept_now p zs pool items stand
        ∙ (let seen = erased_seen s ids m n xs ys next arrivals is e r there like pass ∙ ap (λ o. erased_node e o d) there_is in
        (λ i. record (seen i) { kept = left_out e (seen i).kept }))
        ∙ ap (λ k. record d { rows = left_out e d.rows; orders = map (in_order (without e)) d.orders; kept = k })
        (out_entered e (kept_node e (node_in m (plan s.indexes) r) d) d.kept (unkept s e d is.is_data (node_in m (plan s.indexes) r, there_is)))

    gone_multi : IsMulti s (remove ids e) p zs next arrivals
    gone_multi = subst (λ q. IsMulti s q p zs next arrivals) same_ids
        (given_multi s (with_live ids e false) n ys next arrivals left_multi e r kept_now p zs pool items stand)

    -- the data before it came
    pub back_seen : plain_of s (remove ids e) p zs (next - 1) (arrivals - 1) ≡ taken_back (Inserted (record { id = e; at = r })) d
    back_seen = ap (λ (w : Data). record w { next = next - 1; arrivals = arrivals - 1 }) gone_seen

    pub back_multi : IsData s (taken_back (Inserted (record { id = e; at = r })) d) → IsMulti s (remove ids e) p zs (next - 1) (arrivals - 1)
    back_multi data_ = record {
      rss = gone_multi.rss;
      stand = gone_multi.stand;
      kinds = gone_multi.kinds;
      live = gone_multi.live;
      held = gone_multi.held;
      owned = gone_multi.owned;
      is_data = subst (IsData s) (sym back_seen) data_;
      next_fits = (let l = gone_multi.next_fits in omega (arith, l));
      arrivals_fit = (let l = gone_multi.arrivals_fit in omega (arith, l));
      few = gone_multi.few;
    }
