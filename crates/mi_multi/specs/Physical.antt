-- What ids, nodes and the lists of sequenced indexes mean as plain data.
--     picked      the pairs of a list for which f gives something
--     order_of, orders_of, plan      how indexes stand, with lists of ids for the sequenced ones, or none
--     node_in, live_in, kept_in      what a pool says of a node
--     data_of      the data that they mean
use Rattle.std.specs.Prelude.{ℕ, cond, List, [], ◌∷◌, suc}
use Rattle.std.specs.Ordering.{nat_cmp}
use Rattle.std.specs.FinMap.{FinMap, entries}
use Rattle.std.specs.declared.option.Option.{Option}
use Rattle.std.specs.declared.option.Option.TheVariants.{None, Some}
use Rattle.mi_value.specs.declared.value.Value.{Value}
use Rattle.mi_value.specs.declared.compare.KeyPart.{KeyPart}
use Rattle.mi_catalog.specs.declared.index.Index.{Index}
use Rattle.mi_catalog.specs.declared.index.IndexKind.{IndexKind}
use Rattle.mi_catalog.specs.declared.index.IndexKind.TheVariants.{Ordered, Ranked, Hashed, Sequenced}
use Rattle.mi_node.specs.Pool.{Pooled, value_of, link_of}
use Rattle.mi_node.specs.Refs.{Ref}
use Rattle.mi_order.specs.declared.stored.Stored.{Stored}
use Rattle.mi_container.specs.Data.{Node, Link, Kept, Order, Data}
use Rattle.mi_container.specs.Data.Order.{ById, ByKey, ByHash, Listed}
use Rattle.mi_container.specs.Changes.{sorted_order}
use Rattle.mi_ids.specs.declared.entry.IdEntry.{IdEntry}

-- the pair of that id in front, if there is one
abbrev pub with_pair : {B : Type 0} → ℕ → Option B → List (ℕ × B) → List (ℕ × B)
with_pair e None rest = rest
with_pair e (Some b) rest = (e, b) ∷ rest

abbrev pub picked : {A B : Type 0} → (A → Option B) → List (ℕ × A) → List (ℕ × B)
picked f [] = []
picked f (r ∷ es) = with_pair r.0 (f r.1) (picked f es)

-- the order of an index of that kind with these parts, and with that list if it is sequenced
abbrev pub order_of : IndexKind → List KeyPart → List ℕ → Order
order_of Ordered ps ids = sorted_order ps
order_of Ranked ps ids = sorted_order ps
order_of Hashed ps ids = ByHash ps
order_of Sequenced ps ids = Listed ids

-- those of all indexes, each with the list at its place
abbrev pub orders_of : List Index → List (List ℕ) → List Order
orders_of [] lists = []
orders_of (i ∷ is) [] = order_of i.kind i.parts [] ∷ orders_of is []
orders_of (i ∷ is) (ids ∷ lists) = order_of i.kind i.parts ids ∷ orders_of is lists

-- without lists
abbrev pub plan : List Index → List Order
plan is = orders_of is []

module _ (m : Pooled Stored) where
  -- the stamp of the node of that name in the index of number x
  abbrev pub stamp_in : ℕ → ℕ → Order → ℕ
  stamp_in k x ById = 0
  stamp_in k x (ByKey ps) = (link_of m k x).tag.stamp
  stamp_in k x (ByHash ps) = (link_of m k x).tag.stamp
  stamp_in k x (Listed ids) = 0

  -- those in the indexes from number x on
  abbrev pub stamps_in : ℕ → ℕ → List Order → List ℕ
  stamps_in k x [] = []
  stamps_in k x (o ∷ os) = stamp_in k x o ∷ stamps_in k (suc x) os

  -- the neighbours that its link names
  abbrev pub neighbours_in : ℕ → ℕ → Order → Link
  neighbours_in k x ById = record { back = None; forth = None }
  neighbours_in k x (ByKey ps) = record { back = None; forth = None }
  neighbours_in k x (ByHash ps) = record { back = (link_of m k x).back; forth = (link_of m k x).forth }
  neighbours_in k x (Listed ids) = record { back = (link_of m k x).back; forth = (link_of m k x).forth }

  abbrev pub all_neighbours : ℕ → ℕ → List Order → List Link
  all_neighbours k x [] = []
  all_neighbours k x (o ∷ os) = neighbours_in k x o ∷ all_neighbours k (suc x) os

abbrev pub record_in : Option Stored → List Value
record_in None = []
record_in (Some v) = v.row

abbrev pub stored_id : Option Stored → ℕ
stored_id None = 0
stored_id (Some v) = v.id

module _ (m : Pooled Stored) (os : List Order) where
  abbrev pub node_in : Ref → Node
  node_in r = record { at = r; content = record { values = record_in (value_of m r.name); stamps = stamps_in m r.name 0 os } }

  abbrev pub kept_node_in : Ref → Kept
  kept_node_in r = record { node = node_in r; links = all_neighbours m r.name 0 os }

  -- the node of a live id, and that of one that is only kept
  abbrev pub live_in : IdEntry → Option Node
  live_in a = cond a.live (Some (node_in a.node)) None

  abbrev pub kept_in : IdEntry → Option Kept
  kept_in a = cond a.live None (Some (kept_node_in a.node))

-- the data that the ids mean in a pool, with the lists of the sequenced indexes
abbrev pub data_of : List Index → FinMap nat_cmp IdEntry → Pooled Stored → List (List ℕ) → ℕ → ℕ → Data
data_of is ids m lists next arrivals = record {
  rows = picked (live_in m (plan is)) (entries ids);
  orders = orders_of is lists;
  next = next;
  arrivals = arrivals;
  kept = picked (kept_in m (plan is)) (entries ids);
}
