-- What the calls answer, from what is known of ids and data.
-- Cited by `MultiIndex::erase_for`, `MultiIndex::get`, `MultiIndex::settle_erased`, `MultiIndex::take_back_erased` and 9 more.
use Rattle.std.proofs.Common.{◌≡◌, ℕ, List, Bool, true, false, cond, refl, ap, sym, ◌∙◌, subst}
use Rattle.std.specs.Option.{option_map, option_and_then, is_some}
use Rattle.std.specs.Ordering.{nat_cmp}
use Rattle.std.specs.FinMap.{FinMap, get}
use Rattle.std.specs.declared.option.Option.{Option}
use Rattle.std.specs.declared.option.Option.TheVariants.{None, Some}
use Rattle.std.specs.declared.result.Result.TheVariants.{Ok, Err}
use Rattle.mi_value.specs.declared.refusal.Refusal.TheVariants.{NoId}
use Rattle.mi_catalog.specs.Shape.{Shape}
use Rattle.mi_model.specs.Table.{has, get as get_row}
use Rattle.mi_model.specs.Change.{erase}
use Rattle.mi_model.specs.Verdict.{Outcome, erase_outcome}
use Rattle.mi_node.specs.Pool.{Pooled, value_of}
use Rattle.mi_node.specs.Refs.{Ref}
use Rattle.mi_order.specs.declared.stored.Stored.{Stored}
use Rattle.mi_index.specs.declared.structure.Structure.{Structure}
use Rattle.mi_container.specs.Data.{Node, Kept, Order, Data, IsData, node_of, as_table}
use Rattle.mi_container.specs.Changes.{erased}
use Rattle.mi_container.specs.Inverse.{at_in, RowRef, taken_back, row_returned}
use Rattle.mi_container.specs.Inverse.Inverse.{Erased}
use Rattle.mi_container.specs.Fits.{IsThere, IsKept, AllMeet, Ready}
use Rattle.mi_container.specs.Makes.{Makes}
use Rattle.mi_container.specs.Run.Change.{Erase}
use Rattle.mi_container.proofs.PairLemmas.{some_is}
use Rattle.mi_container.proofs.InvariantLemmas.{lookup_shown, has_there}
use Rattle.mi_container.proofs.TableLemmas.{table_erased}
use Rattle.mi_ids.specs.declared.entry.IdEntry.{IdEntry}
use Rattle.mi_ids.specs.IdMap.{live_node, node_if_live}
use Rattle.mi_multi.specs.Physical.{plan, record_in, all_neighbours, node_in, kept_node_in, live_in}
use Rattle.mi_multi.specs.Multi.{plain_of}
use Rattle.mi_multi.specs.Seen.{Seen, seen_of}
use Rattle.mi_multi.specs.declared.multi.MultiIndex.TheInside.{Inside}
use Rattle.mi_multi.proofs.PickLemmas.{get_picked}
use Rattle.mi_multi.proofs.SettleLemmas.{entry_kept}

-- The live node of an id

live_if : (a : IdEntry) (b : Bool) (r : Ref) → a.live ≡ b → cond b (Some a.node) None ≡ Some r → Some a ≡ Some (record { node = r; live = true })
live_if a true r is h = (λ i. Some (record { node = some_is h i; live = is i }))
live_if a false r is h = absurd (cc)

live_in_entry : (o : Option IdEntry) (r : Ref) → node_if_live o ≡ Some r → o ≡ Some (record { node = r; live = true })
live_in_entry None r h = absurd (cc)
live_in_entry (Some a) r h = live_if a a.live r refl h

pub live_is : (ids : FinMap nat_cmp IdEntry) (e : ℕ) (r : Ref) → live_node ids e ≡ Some r → get ids e ≡ Some (record { node = r; live = true })
live_is ids e r h = live_in_entry (get ids e) r h

no_node_if : (m : Pooled Stored) (os : List Order) (a : IdEntry) (b : Bool) → cond b (Some a.node) None ≡ None → cond b (Some (node_in m os a.node)) None ≡ None
no_node_if m os a true h = absurd (cc)
no_node_if m os a false h = refl

no_node : (m : Pooled Stored) (os : List Order) (o : Option IdEntry) → node_if_live o ≡ None → option_and_then (live_in m os) o ≡ None
no_node m os None h = refl
no_node m os (Some a) h = no_node_if m os a a.live h

-- Erase

module _ (s : Shape) (ids : FinMap nat_cmp IdEntry) (m : Pooled Stored) (xs : List Structure) (next arrivals : ℕ) (e : ℕ) where
  abbrev d : Data
  d = plain_of s ids m xs next arrivals

  pub none_has : live_node ids e ≡ None → has (as_table d) e ≡ false
  none_has h = ap is_some (lookup_shown e d.rows
      ∙ ap (option_map (λ (n : Node). n.content.values)) (get_picked (live_in m (plan s.indexes)) ids e ∙ no_node m (plan s.indexes) (get ids e) h))

  pub row_is : (r : Ref) → live_node ids e ≡ Some r → node_of d.rows e ≡ Some (node_in m (plan s.indexes) r)
  row_is r h = get_picked (live_in m (plan s.indexes)) ids e ∙ ap (option_and_then (live_in m (plan s.indexes))) (live_is ids e r h)

  pub erase_refused : live_node ids e ≡ None → ((erase_outcome e (as_table d)).0 ≡ Err NoId) × (as_table d ≡ (erase_outcome e (as_table d)).1)
  erase_refused h =
      let no_ : has (as_table d) e ≡ false = none_has h in
      ((λ i. (outcome (no_ i)).0), sym (λ i. (outcome (no_ i)).1))
    where
      outcome : Bool → Outcome (Unit {0})
      outcome b = cond b (Ok tt, erase e (as_table d)) (Err NoId, as_table d)

  pub erase_meets : (r : Ref) (new : Data) → live_node ids e ≡ Some r → new ≡ erased e d
      → ((erase_outcome e (as_table d)).0 ≡ Ok tt) × (as_table new ≡ (erase_outcome e (as_table d)).1)
  erase_meets r new h is =
      let there : IsThere d.rows e = (node_in m (plan s.indexes) r, row_is r h) in
      let yes_ : has (as_table d) e ≡ true = has_there d e there in
      ((λ i. (outcome (yes_ i)).0), ap as_table is ∙ table_erased e d there ∙ sym (λ i. (outcome (yes_ i)).1))
    where
      outcome : Bool → Outcome (Unit {0})
      outcome b = cond b (Ok tt, erase e (as_table d)) (Err NoId, as_table d)

  pub erase_made : (why : Option (ℕ × ℕ)) (r : Ref) (new : Data) → live_node ids e ≡ Some r
      → new ≡ erased e d → Makes s (Erase e why) d (Erased (record { id = e; at = r }) why) new
  erase_made why r new h is = record {
    allowed = (node_in m (plan s.indexes) r, row_is r h);
    changed_data = is;
    inverse = ap (λ o. Erased (record { id = e; at = at_in o }) why) (sym (row_is r h));
  }

  -- Reading

  pub no_record : live_node ids e ≡ None → get_row (as_table d) e ≡ None
  no_record h = lookup_shown e d.rows
      ∙ ap (option_map (λ (n : Node). n.content.values)) (get_picked (live_in m (plan s.indexes)) ids e ∙ no_node m (plan s.indexes) (get ids e) h)

  pub record_of : (r : Ref) (v : Stored) → live_node ids e ≡ Some r → value_of m r.name ≡ Some v → get_row (as_table d) e ≡ Some v.row
  record_of r v h is = lookup_shown e d.rows ∙ ap (option_map (λ (n : Node). n.content.values)) (row_is r h) ∙ ap (λ o. Some (record_in o)) is

-- The inverse of an erased row

module _ (i : Inside) (w : Seen) (seen : seen_of i ≡ w) (r : RowRef) where
  abbrev os : List Order
  os = plan i.schema.indexes

  -- the row is kept, in its node
  pub kept_there : IsKept w.plain.kept r → get i.ids.entries r.id ≡ Some (record { node = r.at; live = false })
  kept_there kept =
      let k = subst (λ (v : Seen). IsKept v.plain.kept r) (sym seen) kept in
      (entry_kept i.ids.entries i.nodes.pool os r.id k.0 k.1).0 ∙ ap (λ q. Some (record { node = q; live = false })) k.2

  pub back_meets : (why : Option (ℕ × ℕ)) → Ready (Erased r why) w.plain
      → AllMeet 0 (seen_of i).plain.rows (node_in i.nodes.pool os r.at).content (all_neighbours i.nodes.pool r.at.name 0 os) (seen_of i).plain.orders
  back_meets why ready =
      let b = subst (λ (v : Seen). Ready (Erased r why) v.plain) (sym seen) ready in
      subst (λ (k : Kept). AllMeet 0 (seen_of i).plain.rows k.node.content k.links (seen_of i).plain.orders)
      ((entry_kept i.ids.entries i.nodes.pool os r.id b.0.0 b.0.1).1 ∙ ap (kept_node_in i.nodes.pool os) b.0.2) b.1

  -- the data with the row
  pub back_is : (why : Option (ℕ × ℕ)) → IsKept w.plain.kept r
      → row_returned r.id (Some (kept_node_in i.nodes.pool os r.at)) (seen_of i).plain ≡ taken_back (Erased r why) w.plain
  back_is why kept =
      let k = subst (λ (v : Seen). IsKept v.plain.kept r) (sym seen) kept in
      sym (ap (λ o. row_returned r.id o (seen_of i).plain)
      (k.1 ∙ ap Some ((entry_kept i.ids.entries i.nodes.pool os r.id k.0 k.1).1 ∙ ap (kept_node_in i.nodes.pool os) k.2)))
      ∙ ap (λ (v : Seen). taken_back (Erased r why) v.plain) seen

  pub back_data : (why : Option (ℕ × ℕ)) → IsKept w.plain.kept r → IsData w.shape (taken_back (Erased r why) w.plain)
      → IsData i.schema (row_returned r.id (Some (kept_node_in i.nodes.pool os r.at)) (seen_of i).plain)
  back_data why kept data_ =
      subst (IsData i.schema) (sym (back_is why kept)) (subst (λ k. IsData k (taken_back (Erased r why) w.plain)) (sym (ap (λ (v : Seen). v.shape) seen)) data_)
