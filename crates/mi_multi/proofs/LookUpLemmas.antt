-- What the calls that read answer, from what is known of the index.
-- Cited by `CallLemmas`, `KeyCallLemmas`, `ProbeLemmas`, `RelocateCallLemmas` and `WalkLemmas`.
use Rattle.std.proofs.Common.{◌≡◌, ℕ, true, List, [], ◌∷◌, ◌++◌, ap, sym, ◌∙◌, subst}
use Rattle.std.specs.Prelude.{◌==◌, IsTrue}
use Rattle.std.specs.List.{AllByRecursion}
use Rattle.std.specs.Option.{option_map}
use Rattle.std.specs.Ordering.{nat_cmp}
use Rattle.std.specs.FinMap.{FinMap}
use Rattle.std.proofs.lemmas.Bool.{false≢true}
use Rattle.std.specs.declared.option.Option.TheVariants.{None, Some}
use Rattle.mi_catalog.specs.declared.index.IndexKind.{IndexKind}
use Rattle.mi_catalog.specs.Kinds.{is_sorted, is_hashed, is_sequenced, shows_one_list}
use Rattle.mi_catalog.proofs.KindLaws.{hashed}
use Rattle.mi_catalog.specs.Shape.{Shape, index_at}
use Rattle.mi_model.specs.Table.{Table}
use Rattle.mi_model.specs.View.{view}
use Rattle.mi_model.specs.LookUp as look
use Rattle.mi_model.proofs.ViewLaws.{Lacks}
use Rattle.mi_model.proofs.TableLaws.{count_itself}
use Rattle.mi_node.specs.Pool.{Pooled, IsHeld}
use Rattle.mi_node.specs.Refs.{Ref, first_of, last_of}
use Rattle.mi_tree.specs.BinaryTree.{nth_of}
use Rattle.mi_order.specs.declared.stored.Stored.{Stored}
use Rattle.mi_index.specs.declared.structure.Structure.{Structure}
use Rattle.mi_index.specs.declared.structure.Structure.TheVariants.{Sorted, Hashed, Sequenced}
use Rattle.mi_index.specs.Looks as nodes
use Rattle.mi_index.specs.Standing.{Stands}
use Rattle.mi_container.specs.Asked.{ShowsOneList, IsSorted, IsSequenced}
use Rattle.mi_container.specs.Data.{as_table}
use Rattle.mi_container.proofs.SequenceLemmas.{lacks_left}
use Rattle.mi_ids.specs.declared.entry.IdEntry.{IdEntry}
use Rattle.mi_ids.specs.IdMap.{live_node}
use Rattle.mi_multi.specs.Physical.{stored_id}
use Rattle.mi_multi.specs.Multi.{id_at, ids_at, IsFor, AreLive, IsMulti, plain_of}
use Rattle.mi_multi.proofs.AnswerLemmas.{live_is}
use Rattle.mi_multi.proofs.EveryIndexLemmas.{sorted_not_sequenced, hashed_not_sequenced}
use Rattle.mi_multi.proofs.NeighbourLemmas.{ids_append}
use Rattle.mi_multi.proofs.LiveNodeLemmas.{IsLiveRef, holds, lacks_middle}
use Rattle.mi_multi.proofs.IndexNumberLemmas.{Numbered}
use Rattle.mi_multi.proofs.ViewLemmas.{shows, node_of_row}
use Rattle.mi_multi.proofs.FoundIdLemmas.{first_ids, last_of_ids, nth_ids, after_middle, before_middle, rank_middle}

-- Kinds

hashed_lists : (k : IndexKind) → IsTrue (shows_one_list k) → is_hashed k ≡ true → ⊥
hashed_lists k a b = false≢true (ap shows_one_list (sym (hashed k b)) ∙ a)

pub sorted_hashed : (k : IndexKind) → is_sorted k ≡ true → is_hashed k ≡ true → ⊥
sorted_hashed k a b = false≢true (ap is_sorted (sym (hashed k b)) ∙ a)

-- a node that stands in the list of an index
pub record Among (ids : FinMap nat_cmp IdEntry) (m : Pooled Stored) (y : Structure) (rs : List Ref) (e : ℕ) (r : Ref) : Type 0 where
  pub xs : List Ref
  pub ys : List Ref
  pub parts : rs ≡ xs ++ r ∷ ys
  pub stands : Stands y m (xs ++ r ∷ ys)
  pub lacks : Lacks e (ids_at m xs)
  pub here : (id_at m r == e) ≡ true
  pub id : id_at m r ≡ e

module _ (s : Shape) (ids : FinMap nat_cmp IdEntry) (m : Pooled Stored) (xs : List Structure) (next arrivals : ℕ)
    (is : IsMulti s ids m xs next arrivals) (x : ℕ) (y : Structure) (n : Numbered s ids m xs x y) where
  abbrev t : Table
  t = as_table (plain_of s ids m xs next arrivals)

  abbrev rs : List Ref
  rs = n.stood.rs

  one_list : (w : Structure) → IsFor (index_at s x) w → ShowsOneList s x → nodes.HasOneList w
  one_list (Sorted u) f h = tt
  one_list (Hashed c) f h = absurd (hashed_lists (index_at s x).kind h f.0)
  one_list (Sequenced l) f h = tt

  pub lists : ShowsOneList s x → nodes.HasOneList y
  lists h = one_list y n.stood.for_ h

  is_tree : (w : Structure) → IsFor (index_at s x) w → IsSorted s x → nodes.IsSortedStructure w
  is_tree (Sorted u) f h = tt
  is_tree (Hashed c) f h = absurd (sorted_hashed (index_at s x).kind h f.0)
  is_tree (Sequenced l) f h = absurd (sorted_not_sequenced (index_at s x).kind h f)

  pub sorts : IsSorted s x → nodes.IsSortedStructure y
  sorts h = is_tree y n.stood.for_ h

  is_listing : (w : Structure) → IsFor (index_at s x) w → IsSequenced s x → nodes.IsListStructure w
  is_listing (Sorted u) f h = absurd (sorted_not_sequenced (index_at s x).kind f.0 (ap is_sequenced h))
  is_listing (Hashed c) f h = absurd (hashed_not_sequenced (index_at s x).kind f.0 (ap is_sequenced h))
  is_listing (Sequenced l) f h = tt

  pub listing : IsSequenced s x → nodes.IsListStructure y
  listing h = is_listing y n.stood.for_ h

  held_of : (qs : List Ref) → AllByRecursion (IsLiveRef ids m) qs → AllByRecursion (IsHeld m) qs
  held_of [] all = tt
  held_of (q ∷ qs) all = ((node_of_row s ids m xs next arrivals is x y n q all.0).held, held_of qs all.1)

  pub held : AllByRecursion (IsHeld m) rs
  held = held_of rs n.stood.live.rows

  pub ids_shown : ids_at m rs ≡ view s t x
  ids_shown = shows s ids m xs next arrivals is x y n

  pub first_seen : option_map (id_at m) (first_of rs None) ≡ look.first s t x
  first_seen = first_ids (id_at m) rs ∙ ap (λ l. look.before_place l 1) ids_shown

  pub last_seen : option_map (id_at m) (last_of None rs) ≡ look.last s t x
  last_seen = last_of_ids (id_at m) rs ∙ ap (λ l. look.before_place l (Rattle.std.specs.Prelude.length l)) ids_shown

  pub nth_seen : (k : ℕ) → option_map (id_at m) (nth_of rs k) ≡ look.nth s t x k
  nth_seen k = nth_ids (id_at m) rs k ∙ ap (λ l. Rattle.std.specs.Prelude.slice_get l k) ids_shown

  module _ (e : ℕ) (r : Ref) (there : live_node ids e ≡ Some r) where
    pub among : Among ids m y rs e r
    among =
        let entry = live_is ids e r there in
        let h = holds ids m e r rs entry n.stood.live in
        let id : id_at m r ≡ e = (let has = is.held e (record { node = r; live = true }) entry in ap stored_id has.is ∙ has.id) in
        let parted : AreLive ids m (h.xs ++ r ∷ h.ys) = subst (AreLive ids m) h.parts n.stood.live in
        record {
          xs = h.xs;
          ys = h.ys;
          parts = h.parts;
          stands = subst (Stands y m) h.parts n.stood.stands;
          lacks = lacks_left e (ids_at m h.xs) (ids_at m h.ys)
              (subst (Lacks e) (ids_append (id_at m) h.xs h.ys) (lacks_middle ids m e r h.xs h.ys id entry parted));
          here = subst (λ k. (k == e) ≡ true) (sym id) (count_itself e);
          id = id;
        }

    abbrev a : Among ids m y rs e r
    a = among

    whole : ids_at m (a.xs ++ r ∷ a.ys) ≡ view s t x
    whole = ap (ids_at m) (sym a.parts) ∙ ids_shown

    pub after_seen : option_map (id_at m) (first_of a.ys None) ≡ look.after s t x e
    after_seen = after_middle (id_at m) e a.xs r a.ys a.here a.lacks ∙ ap (λ l. look.after_in l e) whole

    pub before_seen : option_map (id_at m) (last_of None a.xs) ≡ look.before s t x e
    before_seen = before_middle (id_at m) e a.xs r a.ys a.here a.lacks ∙ ap (λ l. look.before_in l e) whole

    pub rank_seen : Rattle.std.specs.Prelude.length a.xs ≡ look.rank s t x e
    rank_seen = sym (rank_middle (id_at m) e a.xs r a.ys a.here a.lacks) ∙ ap (λ l. look.rank_in l e) whole
