-- What holds of ids, nodes and the structures of all indexes together.
--     id_at, ids_at      the ids of nodes
--     own_lists      the lists of the sequenced indexes, as their links say
--     IsFor, AllFor      structures of the kinds and parts of indexes
--     AreLive      a list has the node of each live id once, and no others
--     IsMulti      all of it
use Rattle.std.specs.Prelude.{◌≡◌, ℕ, ◌≤◌, ◌^◌, Bool, true, false, cond, List, [], ◌∷◌, map}
use Rattle.std.specs.Ordering.{nat_cmp}
use Rattle.std.specs.FinMap.{FinMap, get, len}
use Rattle.std.specs.List.{AllByRecursion}
use Rattle.std.specs.declared.option.Option.{Option}
use Rattle.std.specs.declared.option.Option.TheVariants.{None, Some}
use Rattle.mi_value.specs.declared.limits.TheConstants.{LAST_COUNT}
use Rattle.mi_catalog.specs.declared.index.Index.{Index}
use Rattle.mi_catalog.specs.Kinds.{is_sorted, is_hashed, is_sequenced}
use Rattle.mi_catalog.specs.Shape.{Shape}
use Rattle.mi_model.specs.Table.{times}
use Rattle.mi_node.specs.Pool.{Pooled, value_of, IsHeld}
use Rattle.mi_node.specs.Refs.{Ref}
use Rattle.mi_list.specs.Order.{order}
use Rattle.mi_order.specs.declared.stored.Stored.{Stored}
use Rattle.mi_index.specs.declared.structure.Structure.{Structure}
use Rattle.mi_index.specs.declared.structure.Structure.TheVariants.{Sorted, Hashed, Sequenced}
use Rattle.mi_index.specs.Pass.{AllStand}
use Rattle.mi_container.specs.Data.{Data, IsData}
use Rattle.mi_ids.specs.declared.entry.IdEntry.{IdEntry}
use Rattle.mi_multi.specs.Physical.{stored_id, data_of}

module _ (m : Pooled Stored) where
  abbrev pub id_at : Ref → ℕ
  id_at r = stored_id (value_of m r.name)

  abbrev pub ids_at : List Ref → List ℕ
  ids_at rs = map id_at rs

abbrev pub own_list : Pooled Stored → Structure → List ℕ
own_list m (Sorted t) = []
own_list m (Hashed c) = []
own_list m (Sequenced l) = map (λ k. stored_id (value_of m k)) (order l m)

abbrev pub own_lists : Pooled Stored → List Structure → List (List ℕ)
own_lists m xs = map (own_list m) xs

-- a structure of the kind and the parts of an index
abbrev pub IsFor : Index → Structure → Type 0
IsFor i (Sorted t) = (is_sorted i.kind ≡ true) × (t.order.parts ≡ i.parts)
IsFor i (Hashed c) = (is_hashed i.kind ≡ true) × (c.keys.parts ≡ i.parts)
IsFor i (Sequenced l) = is_sequenced i.kind ≡ true

abbrev pub AllFor : List Index → List Structure → Type 0
AllFor [] [] = Unit {0}
AllFor [] (x ∷ xs) = ⊥
AllFor (i ∷ is) [] = ⊥
AllFor (i ∷ is) (x ∷ xs) = IsFor i x × AllFor is xs

abbrev pub is_live : Option IdEntry → Bool
is_live None = false
is_live (Some a) = a.live

-- a list has the node of each live id once, and no others
pub record AreLive (ids : FinMap nat_cmp IdEntry) (m : Pooled Stored) (rs : List Ref) : Type 0 where
  pub rows : AllByRecursion (λ r. get ids (id_at m r) ≡ Some (record { node = r; live = true })) rs
  pub each : (e : ℕ) → times e (ids_at m rs) ≡ cond (is_live (get ids e)) 1 0

-- the node of an id is held, and has that id
pub record HasNode (m : Pooled Stored) (e : ℕ) (r : Ref) : Type 0 where
  pub value : Stored
  pub is : value_of m r.name ≡ Some value
  pub id : value.id ≡ e
  pub held : IsHeld m r

-- the data that ids and nodes mean
abbrev pub plain_of : Shape → FinMap nat_cmp IdEntry → Pooled Stored → List Structure → ℕ → ℕ → Data
plain_of s ids m xs next arrivals = data_of s.indexes ids m (own_lists m xs) next arrivals

-- the structures stand, each with the nodes of the live ids; each id, live or kept, has its node, and there are no others
pub record IsMulti (s : Shape) (ids : FinMap nat_cmp IdEntry) (m : Pooled Stored) (xs : List Structure) (next arrivals : ℕ) : Type 0 where
  pub rss : List (List Ref)
  pub stand : AllStand xs 0 m rss
  pub kinds : AllFor s.indexes xs
  pub live : AllByRecursion (AreLive ids m) rss
  pub held : (e : ℕ) (a : IdEntry) → get ids e ≡ Some a → HasNode m e a.node
  pub owned : (r : Ref) → IsHeld m r → (e : ℕ) × (a : IdEntry) × (get ids e ≡ Some a) × (a.node ≡ r)
  pub is_data : IsData s (plain_of s ids m xs next arrivals)
  pub next_fits : next ≤ LAST_COUNT
  pub arrivals_fit : arrivals ≤ LAST_COUNT
  -- there are no more than places in a pool
  pub few : len ids ≤ 2 ^ 31
