-- The stamps of live nodes, and the list that they give a hashed index.
-- Cited by `ImagingLemmas`, `InsertLemmas`, `LinkLemmas`, `NeighbourLemmas`, `OldPlaceLemmas` and 5 more.
use Rattle.std.proofs.Common.{◌≡◌, ℕ, ◌+◌, ◌<◌, zero, suc, Bool, true, false, cond, List, [], ◌∷◌, get_or, length, refl, ap, sym, ◌∙◌, subst, arith}
use Rattle.std.specs.List.{AllByRecursion, filter}
use Rattle.std.specs.Ordering.{nat_cmp, on}
use Rattle.std.specs.Cmp.{on_total}
use Rattle.std.specs.FinMap.{FinMap, get, entries}
use Rattle.std.specs.Option.{is_some, option_map, option_and_then}
use Rattle.std.proofs.lemmas.Cmp.{nat_cmp_total}
use Rattle.std.proofs.lemmas.Bool.{false≢true}
use Rattle.std.proofs.lemmas.Bool.Decides.{nat_tests}
use Rattle.std.specs.declared.cmp.Ordering.TheVariants.{Less}
use Rattle.std.specs.declared.option.Option.{Option}
use Rattle.std.specs.declared.option.Option.TheVariants.{None, Some}
use Rattle.mi_value.specs.declared.compare.KeyPart.{KeyPart}
use Rattle.mi_catalog.specs.Shape.{Shape}
use Rattle.mi_model.specs.Table.{ListsEach}
use Rattle.mi_model.proofs.StampLaws.{Rises, rises_once}
use Rattle.mi_node.specs.Pool.{Pooled, link_of}
use Rattle.mi_node.specs.Refs.{Ref}
use Rattle.mi_chain.specs.Keying.{stamp_at}
use Rattle.mi_order.specs.declared.stored.Stored.{Stored}
use Rattle.mi_index.specs.Standing.{AllAbove, AllBelow, Climb}
use Rattle.mi_container.specs.Data.{Node, Order, Data, has_stamps, node_of, content_in, stamp_of, ids_by_stamp, listed, lists_from, as_table, IsData}
use Rattle.mi_container.specs.Data.Order.{ById, ByKey, ByHash, Listed}
use Rattle.mi_container.proofs.InvariantLemmas.{lookup_shown}
use Rattle.mi_container.proofs.ViewLemmas.{stamps_rise_in}
use Rattle.mi_ids.specs.declared.entry.IdEntry.{IdEntry}
use Rattle.mi_multi.specs.Physical.{stamp_in, stamps_in, picked, node_in, live_in}
use Rattle.mi_multi.specs.Multi.{id_at, ids_at, is_live, AreLive}
use Rattle.mi_multi.proofs.PickLemmas.{get_picked}
use Rattle.mi_multi.proofs.LiveNodeLemmas.{IsLiveRef, node_live}

pub stamps_at : (m : Pooled Stored) (q y : ℕ) (os : List Order) (k : ℕ) → k < length os
    → get_or (stamps_in m q y os) k 0 ≡ stamp_in m q (y + k) (get_or os k ById)
stamps_at m q y [] k l = absurd (omega arith)
stamps_at m q y (o ∷ os) zero l = let here : y ≡ y + 0 = omega arith in ap (λ x. stamp_in m q x o) here
stamps_at m q y (o ∷ os) (suc k) l =
    let next : suc y + k ≡ y + suc k = omega arith in stamps_at m q (suc y) os k (omega arith) ∙ ap (λ x. stamp_in m q x (get_or os k ById)) next

pub stamp_given : (m : Pooled Stored) (q x : ℕ) (o : Order) → has_stamps o ≡ true → stamp_in m q x o ≡ (link_of m q x).tag.stamp
stamp_given m q x ById h = absurd (false≢true h)
stamp_given m q x (ByKey ps) h = refl
stamp_given m q x (ByHash ps) h = refl
stamp_given m q x (Listed l) h = absurd (false≢true h)

-- the stamp of a node in an index that has stamps
pub stamp_held : (m : Pooled Stored) (os : List Order) (x : ℕ) (r : Ref) → x < length os → has_stamps (get_or os x ById) ≡ true
    → get_or (stamps_in m r.name 0 os) x 0 ≡ (link_of m r.name x).tag.stamp
stamp_held m os x r l has_ =
    let same : 0 + x ≡ x = omega arith in
    stamps_at m r.name 0 os x l ∙ ap (λ q. stamp_in m r.name q (get_or os x ById)) same ∙ stamp_given m r.name x (get_or os x ById) has_

-- the list of a hashed index, as the table has it
list_in : (P : List ℕ → Type 0) (y : ℕ) (rows : List (ℕ × Node)) (os : List Order) (k : ℕ) (ps : List KeyPart)
    → AllByRecursion P (lists_from y rows os) → k < length os → get_or os k ById ≡ ByHash ps → P (ids_by_stamp (y + k) rows)
list_in P y rows [] k ps all l is = absurd (omega arith)
list_in P y rows (o ∷ os) zero ps all l is =
    let here : y ≡ y + 0 = omega arith in subst (λ x. P (ids_by_stamp x rows)) here (subst (λ q. P (listed y rows q)) is all.0)
list_in P y rows (o ∷ os) (suc k) ps all l is =
    let next : suc y + k ≡ y + suc k = omega arith in subst (λ x. P (ids_by_stamp x rows)) next (list_in P (suc y) rows os k ps all.1 (omega arith) is)

less_is : (a b : ℕ) → a < b → nat_cmp a b ≡ Less
less_is a b l = grind (arith, nat_tests)

module _ (ids : FinMap nat_cmp IdEntry) (m : Pooled Stored) (os : List Order) where
  abbrev pub rows : List (ℕ × Node)
  rows = picked (live_in m os) (entries ids)

  -- the stamp of a live node in an index that has stamps
  pub stamp_row : (x : ℕ) (r : Ref) → IsLiveRef ids m r → x < length os
      → has_stamps (get_or os x ById) ≡ true → stamp_of rows x (id_at m r) ≡ (link_of m r.name x).tag.stamp
  stamp_row x r live l has_ = ap (λ o. get_or (content_in o).stamps x 0) (node_live ids m os r live) ∙ stamp_held m os x r l has_

  -- the rows of nodes with lower stamps have lower stamps
  pub below_ids : (x a : ℕ) (qs : List Ref) → AllByRecursion (IsLiveRef ids m) qs → x < length os → has_stamps (get_or os x ById) ≡ true
      → AllBelow (stamp_at m x) a qs → (p : Ref → Bool) → AllByRecursion (λ w. stamp_of rows x w < a) (ids_at m (filter p qs))
  below_ids x a [] all l has_ below p = tt
  below_ids x a (q ∷ qs) all l has_ below p =
      elim (p q) as (λ t. AllByRecursion (λ w. stamp_of rows x w < a) (ids_at m (cond t (q ∷ filter p qs) (filter p qs)))) [
        | true ↦ (subst (λ w. w < a) (sym (stamp_row x q all.0 l has_)) below.0, below_ids x a qs all.1 l has_ below.1 p)
        | false ↦ below_ids x a qs all.1 l has_ below.1 p
      ]

  -- the rows of nodes with higher stamps have higher stamps
  pub above_ids : (x a : ℕ) (qs : List Ref) → AllByRecursion (IsLiveRef ids m) qs → x < length os → has_stamps (get_or os x ById) ≡ true
      → AllAbove (stamp_at m x) a qs → (p : Ref → Bool) → AllByRecursion (λ w. a < stamp_of rows x w) (ids_at m (filter p qs))
  above_ids x a [] all l has_ above p = tt
  above_ids x a (q ∷ qs) all l has_ above p =
      elim (p q) as (λ t. AllByRecursion (λ w. a < stamp_of rows x w) (ids_at m (cond t (q ∷ filter p qs) (filter p qs)))) [
        | true ↦ (subst (λ w. a < w) (sym (stamp_row x q all.0 l has_)) above.0, above_ids x a qs all.1 l has_ above.1 p)
        | false ↦ above_ids x a qs all.1 l has_ above.1 p
      ]

  all_less : (x : ℕ) (r : Ref) (rs : List Ref) → IsLiveRef ids m r → AllByRecursion (IsLiveRef ids m) rs
      → x < length os → has_stamps (get_or os x ById) ≡ true → AllAbove (stamp_at m x) (stamp_at m x r) rs
      → AllByRecursion (λ b. on (stamp_of rows x) nat_cmp (id_at m r) b ≡ Less) (ids_at m rs)
  all_less x r [] live all l has_ up = tt
  all_less x r (q ∷ qs) live all l has_ up =
      let mine = stamp_row x r live l has_ in
      let its = stamp_row x q all.0 l has_ in
      ((λ i. nat_cmp (mine i) (its i)) ∙ less_is (stamp_at m x r) (stamp_at m x q) up.0, all_less x r qs live all.1 l has_ up.1)

  pub rises_ids : (x : ℕ) (rs : List Ref) → AllByRecursion (IsLiveRef ids m) rs → x < length os
      → has_stamps (get_or os x ById) ≡ true → Climb (stamp_at m x) rs → Rises (on (stamp_of rows x) nat_cmp) (ids_at m rs)
  rises_ids x [] all l has_ up = tt
  rises_ids x (r ∷ rs) all l has_ up = (all_less x r rs all.0 all.1 l has_ up.0, rises_ids x rs all.1 l has_ up.1)

  is_there : (o : Option IdEntry) → is_some (option_map (λ (n : Node). n.content.values) (option_and_then (live_in m os) o)) ≡ is_live o
  is_there None = refl
  is_there (Some a) =
      elim a.live as (λ b. is_some (option_map (λ (n : Node). n.content.values) (cond b (Some (node_in m os a.node)) None)) ≡ b) [ true ↦ refl | false ↦ refl ]

  -- a list of the live nodes has each live id once
  pub lists_each : (s : Shape) (d : Data) (rs : List Ref) → d.rows ≡ rows → AreLive ids m rs → ListsEach (as_table d) (ids_at m rs)
  lists_each s d rs same live id =
      live.each id
      ∙ ap (λ b. cond {A = ℕ} b 1 0)
      (sym (is_there (get ids id)) ∙ ap (λ o. is_some (option_map (λ (n : Node). n.content.values) o)) (sym (get_picked (live_in m os) ids id))
      ∙ ap (λ q. is_some (option_map (λ (n : Node). n.content.values) (node_of q id))) (sym same)
      ∙ ap is_some (sym (lookup_shown id d.rows)))

-- the list of a hashed index by its stamps is that of its nodes
pub by_stamp_is : (s : Shape) (d : Data) (ids : FinMap nat_cmp IdEntry) (m : Pooled Stored) (os : List Order) (x : ℕ) (ps : List KeyPart) (rs : List Ref)
    → IsData s d → d.rows ≡ rows ids m os → x < length d.orders → x < length os
    → get_or d.orders x ById ≡ ByHash ps → get_or os x ById ≡ ByHash ps → AreLive ids m rs → Climb (stamp_at m x) rs → ids_by_stamp x d.rows ≡ ids_at m rs
by_stamp_is s d ids m os x ps rs is same l k here plan live up =
    let all : ListsEach (as_table d) (ids_by_stamp x d.rows) =
    (let zeroed : 0 + x ≡ x = omega arith in
    subst (λ q. ListsEach (as_table d) (ids_by_stamp q d.rows)) zeroed (list_in (ListsEach (as_table d)) 0 d.rows d.orders x ps is.table.complete l here)) in
    let each : ListsEach (as_table d) (ids_at m rs) = lists_each ids m os s d rs same live in
    let mine : Rises (on (stamp_of d.rows x) nat_cmp) (ids_at m rs) =
    subst (λ q. Rises (on (stamp_of q x) nat_cmp) (ids_at m rs)) (sym same) (rises_ids ids m os x rs live.rows k (ap has_stamps plan) up) in
    rises_once (on (stamp_of d.rows x) nat_cmp) (on_total (stamp_of d.rows x) nat_cmp_total) (ids_by_stamp x d.rows)
    (ids_at m rs) (stamps_rise_in s d is x l (ap has_stamps here)) mine (λ id. all id ∙ sym (each id))
