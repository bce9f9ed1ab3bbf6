-- The ids in a pool's nodes: those of the ids' entries, each once.
-- Cited by `MultiIndex::keeps_nodes` and `MultiIndex::new`.
use Rattle.std.proofs.Common.{◌≡◌, ◌≢◌, ℕ, ◌+◌, ◌<◌, ◌≤◌, true, false, cond, inl, inr, List, [], ◌∷◌, map, length}
use Rattle.std.proofs.Common.{refl, ap, sym, ◌∙◌, subst, arith}
use Rattle.std.specs.Prelude.{◌==◌}
use Rattle.std.specs.List.{AllByRecursion}
use Rattle.std.specs.Map.{lookup}
use Rattle.std.specs.Option.{option_map, option_and_then, is_some}
use Rattle.std.specs.Ordering.{nat_cmp}
use Rattle.std.specs.FinMap.{FinMap, get, empty, entries, get-empty}
use Rattle.std.proofs.lemmas.Bool.Decides.{eqb_tells}
use Rattle.std.specs.declared.option.Option.{Option}
use Rattle.std.specs.declared.option.Option.TheVariants.{None, Some}
use Rattle.mi_catalog.specs.Shape.{Shape}
use Rattle.mi_model.specs.Table.{has, times}
use Rattle.mi_node.specs.Pool.{Entry, Pooled, node_at, ref_of, value_of, IsHeld, no_nodes}
use Rattle.mi_node.specs.Refs.{Ref}
use Rattle.mi_order.specs.declared.stored.Stored.{Stored}
use Rattle.mi_index.specs.declared.structure.Structure.{Structure}
use Rattle.mi_index.specs.Opened.{IsOpened}
use Rattle.mi_container.specs.Data.{Kept, Order, kept_of, as_table}
use Rattle.mi_container.specs.Held.{HoldsNodes}
use Rattle.mi_container.proofs.PairLemmas.{is_itself, is_other, none_some, some_is, head_is, head_isnt}
use Rattle.mi_ids.specs.declared.entry.IdEntry.{IdEntry}
use Rattle.mi_ids.specs.IdMap.{node_if_live}
use Rattle.mi_multi.specs.Physical.{plan, kept_node_in, kept_in}
use Rattle.mi_multi.specs.Held.{ids_held}
use Rattle.mi_multi.specs.Multi.{HasNode, IsMulti, plain_of}
use Rattle.mi_multi.proofs.PickLemmas.{Above, Up, same_pairs, up_entries, get_lookup, get_picked}
use Rattle.mi_multi.proofs.AcceptLemmas.{has_live}

-- Lists of pairs whose values have ids

found_above : {A : Type 0} (a e : ℕ) (x : A) (es : List (ℕ × A)) → Above a es → lookup (λ k. k == e) es ≡ Some x → a < e
found_above a e x [] all there = absurd (none_some there)
found_above a e x (r ∷ es) all there =
    elim (eqb_tells r.0 e) [
      | inl same ↦ subst (λ k. a < k) same.1 all.0
      | inr isnt ↦ found_above a e x es all.1 (sym (head_isnt e r es isnt.0) ∙ there)
    ]

-- what holds of each pair that is found holds of all
all_found : {A : Type 0} (P : ℕ × A → Type 0) (es : List (ℕ × A)) → Up es → ((k : ℕ) (x : A) → lookup (λ a. a == k) es ≡ Some x → P (k, x))
    → AllByRecursion P es
all_found P [] up each = tt
all_found P (r ∷ es) up each = (
  each r.0 r.1 (head_is r.0 r es (is_itself r.0)),
  all_found P es up.1
      (λ k x there.
      let above : r.0 < k = found_above r.0 k x es up.0 there in
      each k x (head_isnt k r es (is_other r.0 k (λ same. absurd (omega (arith, above, same)))) ∙ there)),
)

module _ {A : Type 0} (f : A → ℕ) (e : ℕ) where
  abbrev ids_by : List (ℕ × A) → List ℕ
  ids_by es = map (λ (q : ℕ × A). f q.1) es

  none_of : (es : List (ℕ × A)) → AllByRecursion (λ (q : ℕ × A). f q.1 ≢ e) es → times e (ids_by es) ≡ 0
  none_of [] all = refl
  none_of (r ∷ es) all =
      let here : cond {A = ℕ} (f r.1 == e) 1 0 ≡ 0 = ap (λ b. cond {A = ℕ} b 1 0) (is_other (f r.1) e all.0) in
      let rest : times e (ids_by es) ≡ 0 = none_of es all.1 in
      omega (arith, here, rest)

  -- behind the one of that place there is no other
  none_behind : (k : ℕ) (es : List (ℕ × A)) → Above k es → AllByRecursion (λ (q : ℕ × A). f q.1 ≡ e → q.0 ≡ k) es
      → AllByRecursion (λ (q : ℕ × A). f q.1 ≢ e) es
  none_behind k [] above all = tt
  none_behind k (r ∷ es) above all =
      let up : k < r.0 = above.0 in
      (λ is. let same : r.0 ≡ k = all.0 is in absurd (omega (arith, up, same)), none_behind k es above.1 all.1)

  one_of : (k : ℕ) (x : A) (es : List (ℕ × A)) → Up es → lookup (λ a. a == k) es ≡ Some x → f x ≡ e
      → AllByRecursion (λ (q : ℕ × A). f q.1 ≡ e → q.0 ≡ k) es → times e (ids_by es) ≡ 1
  one_of k x [] up there is all = absurd (none_some there)
  one_of k x (r ∷ es) up there is all =
      elim (eqb_tells r.0 k) [
        | inl same ↦
            let val : r.1 ≡ x = some_is (sym (head_is k r es same.0) ∙ there) in
            let mine : f r.1 ≡ e = ap f val ∙ is in
            let here : cond {A = ℕ} (f r.1 == e) 1 0 ≡ 1 = ap (λ n. cond {A = ℕ} (n == e) 1 0) mine ∙ ap (λ b. cond {A = ℕ} b 1 0) (is_itself e) in
            let rest : times e (ids_by es) ≡ 0 = none_of es (none_behind k es (subst (λ n. Above n es) same.1 up.0) all.1) in
            omega (arith, here, rest)
        | inr isnt ↦
            let here : cond {A = ℕ} (f r.1 == e) 1 0 ≡ 0 = ap (λ b. cond {A = ℕ} b 1 0) (is_other (f r.1) e (λ mine. isnt.1 (all.0 mine))) in
            let rest : times e (ids_by es) ≡ 1 = one_of k x es up.1 (sym (head_isnt k r es isnt.0) ∙ there) is all.1 in
            omega (arith, here, rest)
      ]

-- An entry of the pool

entry_held : (m : Pooled Stored) (k : ℕ) (x : Entry Stored) → get m.entries k ≡ Some x → IsHeld m (node_at k x)
unfolding ref_of
entry_held m k x there = ap (option_map (node_at k)) there

entry_value : (m : Pooled Stored) (k : ℕ) (x : Entry Stored) → get m.entries k ≡ Some x → value_of m k ≡ Some x.value
unfolding value_of
entry_value m k x there = ap (option_map (λ (a : Entry Stored). a.value)) there

entry_of : (o : Option (Entry Stored)) (v : Stored) → option_map (λ (a : Entry Stored). a.value) o ≡ Some v
    → (x : Entry Stored) × (o ≡ Some x) × (x.value ≡ v)
entry_of None v h = absurd (none_some h)
entry_of (Some x) v h = (x, refl, some_is h)

entry_there : (m : Pooled Stored) (k : ℕ) (v : Stored) → value_of m k ≡ Some v → (x : Entry Stored) × (get m.entries k ≡ Some x) × (x.value ≡ v)
unfolding value_of
entry_there m k v h = entry_of (get m.entries k) v h

-- an id that is known is live, or only kept
sides : (m : Pooled Stored) (os : List Order) (o : Option IdEntry)
    → cond {A = ℕ} (is_some o) 1 0 ≡ cond {A = ℕ} (is_some (node_if_live o)) 1 0 + cond {A = ℕ} (is_some (option_and_then (kept_in m os) o)) 1 0
sides m os None = refl
sides m os (Some a) =
    elim a.live
    as (λ b. 1 ≡ cond {A = ℕ} (is_some (cond b (Some a.node) None)) 1 0
    + cond {A = ℕ} (is_some (cond {A = Option Kept} b None (Some (kept_node_in m os a.node)))) 1 0) [
      | true ↦ refl
      | false ↦ refl
    ]

at_most_one : (o : Option IdEntry) (n : ℕ) → n ≡ cond {A = ℕ} (is_some o) 1 0 → n ≤ 1
at_most_one None n is = omega (arith, is)
at_most_one (Some a) n is = omega (arith, is)

module _ (s : Shape) (ids : FinMap nat_cmp IdEntry) (m : Pooled Stored) (xs : List Structure)
    (next arrivals : ℕ) (is : IsMulti s ids m xs next arrivals) where
  -- the id of a node that is held is known, with that node
  known : (k : ℕ) (x : Entry Stored) → get m.entries k ≡ Some x → (a : IdEntry) × (get ids x.value.id ≡ Some a) × (a.node.name ≡ k)
  known k x there =
      let owner = is.owned (node_at k x) (entry_held m k x there) in
      let node : HasNode m owner.0 owner.1.node = is.held owner.0 owner.1 owner.2 in
      let name : owner.1.node.name ≡ k = ap (λ (r : Ref). r.name) owner.3 in
      let val : node.value ≡ x.value = some_is (sym node.is ∙ ap (value_of m) name ∙ entry_value m k x there) in
      let id : owner.0 ≡ x.value.id = sym node.id ∙ ap (λ (v : Stored). v.id) val in
      (owner.1, ap (get ids) (sym id) ∙ owner.2, name)

  found : (k : ℕ) (x : Entry Stored) → lookup (λ a. a == k) (entries m.entries) ≡ Some x → get m.entries k ≡ Some x
  found k x there = sym (get_lookup m.entries k) ∙ there

  times_held : (e : ℕ) (o : Option IdEntry) → get ids e ≡ o → times e (ids_held m) ≡ cond {A = ℕ} (is_some o) 1 0
  times_held e None none =
      none_of (λ (x : Entry Stored). x.value.id) e (entries m.entries)
      (all_found (λ (q : ℕ × Entry Stored). q.1.value.id ≢ e) (entries m.entries) (up_entries m.entries)
      (λ k x there mine.
      let owner = known k x (found k x there) in
      none_some (sym none ∙ sym (ap (get ids) mine) ∙ owner.1)))
  times_held e (Some a) there =
      let node : HasNode m e a.node = is.held e a there in
      let entry = entry_there m a.node.name node.value node.is in
      one_of (λ (x : Entry Stored). x.value.id) e a.node.name entry.0 (entries m.entries) (up_entries m.entries)
      (get_lookup m.entries a.node.name ∙ entry.1) (ap (λ (v : Stored). v.id) entry.2 ∙ node.id)
      (all_found (λ (q : ℕ × Entry Stored). q.1.value.id ≡ e → q.0 ≡ a.node.name) (entries m.entries) (up_entries m.entries)
      (λ k x here mine.
      let owner = known k x (found k x here) in
      let same : owner.0 ≡ a = some_is (sym owner.1 ∙ ap (get ids) mine ∙ there) in
      sym owner.2 ∙ ap (λ (w : IdEntry). w.node.name) same))

  -- the pool has a node for each row and for each id that is kept, and no others
  pub nodes_held : HoldsNodes (ids_held m) (plain_of s ids m xs next arrivals)
  nodes_held = record {
    each = λ e.
        let live : is_some (node_if_live (get ids e)) ≡ has (as_table (plain_of s ids m xs next arrivals)) e = has_live s ids m xs next arrivals e in
        let kept : is_some (kept_of (plain_of s ids m xs next arrivals).kept e) ≡ is_some (option_and_then (kept_in m (plan s.indexes)) (get ids e)) =
        ap is_some (get_picked (kept_in m (plan s.indexes)) ids e) in
        let all : times e (ids_held m) ≡ cond {A = ℕ} (is_some (get ids e)) 1 0 = times_held e (get ids e) refl in
        let split : cond {A = ℕ} (is_some (get ids e)) 1 0
        ≡ cond {A = ℕ} (is_some (node_if_live (get ids e))) 1 0 + cond {A = ℕ} (is_some (option_and_then (kept_in m (plan s.indexes)) (get ids e))) 1 0 =
        sides m (plan s.indexes) (get ids e) in
        let first : cond {A = ℕ} (is_some (node_if_live (get ids e))) 1 0 ≡ cond {A = ℕ} (has (as_table (plain_of s ids m xs next arrivals)) e) 1 0 =
        ap (λ b. cond {A = ℕ} b 1 0) live in
        let second : cond {A = ℕ} (is_some (kept_of (plain_of s ids m xs next arrivals).kept e)) 1 0
        ≡ cond {A = ℕ} (is_some (option_and_then (kept_in m (plan s.indexes)) (get ids e))) 1 0 = ap (λ b. cond {A = ℕ} b 1 0) kept in
        omega (arith, all, split, first, second);
    once = λ e. at_most_one (get ids e) (times e (ids_held m)) (times_held e (get ids e) refl);
  }

-- a pool that opens has none

none_held : (n : ℕ) → ids_held (no_nodes n) ≡ []
unfolding no_nodes
none_held n =
    let none : FinMap nat_cmp (Entry Stored) = empty in
    ap (map (λ (q : ℕ × Entry Stored). q.1.value.id)) (same_pairs (entries none) [] (up_entries none) tt (λ e. get_lookup none e ∙ get-empty nat_cmp e))

pub opened_held : (secret : ℕ) (s : Shape) (m : Pooled Stored) (xs : List Structure) → IsOpened secret s m xs → ids_held m ≡ []
opened_held secret s m xs opened = ap ids_held opened.pool ∙ none_held (length s.indexes)
