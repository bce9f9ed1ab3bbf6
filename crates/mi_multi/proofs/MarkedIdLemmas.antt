-- An id is marked as live, or as only kept, and the nodes keep their names and values.
-- Cited by `EraseLemmas`, `RelocateLemmas`, `RoomLemmas` and `TakeBackEraseLemmas`.
use Rattle.std.proofs.Common.{◌≡◌, ◌≢◌, ℕ, ◌^◌, ◌≤◌, Bool, inl, inr, List, [], ◌∷◌, ap, sym, ◌∙◌, subst, arith}
use Rattle.std.specs.List.{AllByRecursion}
use Rattle.std.specs.Ordering.{nat_cmp}
use Rattle.std.specs.FinMap.{FinMap, get, len}
use Rattle.std.proofs.lemmas.Bool.Decides.{eqb_tells}
use Rattle.std.specs.declared.option.Option.TheVariants.{Some}
use Rattle.mi_catalog.specs.Shape.{Shape}
use Rattle.mi_model.specs.Table.{times}
use Rattle.mi_node.specs.Pool.{Pooled, ref_of, value_of, IsHeld}
use Rattle.mi_node.specs.Refs.{Ref}
use Rattle.mi_order.specs.declared.stored.Stored.{Stored}
use Rattle.mi_index.specs.declared.structure.Structure.{Structure}
use Rattle.mi_index.specs.Pass.{AllStand}
use Rattle.mi_container.specs.Data.{IsData}
use Rattle.mi_container.proofs.PairLemmas.{some_is}
use Rattle.mi_ids.specs.declared.entry.IdEntry.{IdEntry}
use Rattle.mi_ids.specs.IdMap.{with_live}
use Rattle.mi_multi.specs.Physical.{stored_id}
use Rattle.mi_multi.specs.Multi.{ids_at, AllFor, AreLive, HasNode, IsMulti, plain_of}
use Rattle.mi_multi.proofs.LiveNodeLemmas.{IsLiveRef, ids_same, marked_here, marked_beside, len_marked}

module _ (s : Shape) (ids : FinMap nat_cmp IdEntry) (m n : Pooled Stored) (xs : List Structure) (next arrivals : ℕ)
    (is : IsMulti s ids m xs next arrivals) (e : ℕ) (r : Ref) (was mark : Bool) (there : get ids e ≡ Some (record { node = r; live = was }))
    (refs : (k : ℕ) → ref_of n k ≡ ref_of m k) (values : (k : ℕ) → value_of n k ≡ value_of m k) where
  abbrev new_ids : FinMap nat_cmp IdEntry
  new_ids = with_live ids e mark

  now : get new_ids e ≡ Some (record { node = r; live = mark })
  now = marked_here ids e (record { node = r; live = was }) mark there

  others : (q : ℕ) → q ≢ e → get new_ids q ≡ get ids q
  others = marked_beside ids e (record { node = r; live = was }) mark there

  has_still : (q : ℕ) (b : Ref) → HasNode m q b → HasNode n q b
  has_still q b h = record { value = h.value; is = values b.name ∙ h.is; id = h.id; held = refs b.name ∙ h.held }

  -- each id still has its node
  marked_held : (q : ℕ) (a : IdEntry) → get new_ids q ≡ Some a → HasNode n q a.node
  marked_held q a here =
      elim (eqb_tells q e) [
        | inl it ↦
            let same : record { node = r; live = mark } ≡ a = some_is (sym now ∙ sym (ap (get new_ids) it.1) ∙ here) in
            subst (λ (w : IdEntry). HasNode n q w.node) same
            (has_still q r (subst (λ k. HasNode m k r) (sym it.1) (is.held e (record { node = r; live = was }) there)))
        | inr isnt ↦ has_still q a.node (is.held q a (sym (others q isnt.1) ∙ here))
      ]

  -- each node is still that of an id
  marked_owned : (b : Ref) → IsHeld n b → (q : ℕ) × (a : IdEntry) × (get new_ids q ≡ Some a) × (a.node ≡ b)
  marked_owned b h =
      let had = is.owned b (sym (refs b.name) ∙ h) in
      elim (eqb_tells had.0 e) [
        | inl it ↦
            let same : record { node = r; live = was } ≡ had.1 = some_is (sym there ∙ sym (ap (get ids) it.1) ∙ had.2) in
            (e, record { node = r; live = mark }, now, ap (λ (w : IdEntry). w.node) same ∙ had.3)
        | inr isnt ↦ (had.0, had.1, others had.0 isnt.1 ∙ had.2, had.3)
      ]

  -- there are no more ids than before
  marked_few : len new_ids ≤ 2 ^ 31
  marked_few =
      let same : len new_ids ≡ len ids = len_marked ids e (record { node = r; live = was }) mark there in let f : len ids ≤ 2 ^ 31 = is.few in omega arith

  -- all stands, where the structures stand with live nodes, and the data are a container's
  pub marked_multi : (ys : List Structure) (uss : List (List Ref)) → AllStand ys 0 n uss → AllFor s.indexes ys → AllByRecursion (AreLive new_ids n) uss
      → IsData s (plain_of s new_ids n ys next arrivals) → IsMulti s new_ids n ys next arrivals
  marked_multi ys uss stand kinds live is_data = record {
    rss = uss;
    stand = stand;
    kinds = kinds;
    live = live;
    held = marked_held;
    owned = marked_owned;
    is_data = is_data;
    next_fits = is.next_fits;
    arrivals_fit = is.arrivals_fit;
    few = marked_few;
  }

-- a pool whose references and values stay, for the same ids

module _ (ids : FinMap nat_cmp IdEntry) (m n : Pooled Stored) (values : (k : ℕ) → value_of n k ≡ value_of m k) where
  pub same_refs : (qs : List Ref) → AllByRecursion (IsLiveRef ids m) qs → AllByRecursion (IsLiveRef ids n) qs
  same_refs [] all = tt
  same_refs (q ∷ qs) all = (ap (get ids) (ap stored_id (values q.name)) ∙ all.0, same_refs qs all.1)

  pub same_live : (rs us : List Ref) → AreLive ids m rs → us ≡ rs → AreLive ids n us
  same_live rs us live same = record {
    rows = same_refs us (subst (AllByRecursion (IsLiveRef ids m)) (sym same) live.rows);
    each = λ q. ap (times q) (ids_same m n us values ∙ ap (ids_at m) same) ∙ live.each q;
  }

pub same_ids_multi : (s : Shape) (ids : FinMap nat_cmp IdEntry) (m n : Pooled Stored) (xs ys : List Structure) (next arrivals : ℕ)
    → IsMulti s ids m xs next arrivals → ((k : ℕ) → ref_of n k ≡ ref_of m k) → ((k : ℕ) → value_of n k ≡ value_of m k)
    → (uss : List (List Ref)) → AllStand ys 0 n uss → AllFor s.indexes ys → AllByRecursion (AreLive ids n) uss
    → IsData s (plain_of s ids n ys next arrivals) → IsMulti s ids n ys next arrivals
same_ids_multi s ids m n xs ys next arrivals is refs values uss stand kinds live is_data = record {
  rss = uss;
  stand = stand;
  kinds = kinds;
  live = live;
  held = λ q a here. (let h : HasNode m q a.node = is.held q a here in
      record { value = h.value; is = values a.node.name ∙ h.is; id = h.id; held = refs a.node.name ∙ h.held });
  owned = λ a h. is.owned a (sym (refs a.name) ∙ h);
  is_data = is_data;
  next_fits = is.next_fits;
  arrivals_fit = is.arrivals_fit;
  few = is.few;
}
