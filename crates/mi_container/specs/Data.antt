-- The plain data of a container, and the table that they mean. Rows are named by ids, nodes by references.
--     Node, Kept      a live node, and one that has left every index
--     Order      how an index stands
--     as_table, IsData      the table, and what holds of the data of every container
use Rattle.std.specs.Prelude.{◌≡◌, ◌≢◌, ℕ, ◌<◌, ◌==◌, Bool, true, false, List, [], ◌∷◌, map, slice_index_or, suc}
use Rattle.std.specs.List.{AllByRecursion}
use Rattle.std.specs.Ordering.{nat_cmp, on}
use Rattle.std.specs.declared.option.Option.{Option}
use Rattle.std.specs.declared.option.Option.TheVariants.{None, Some}
use Rattle.std.specs.Map.{lookup}
use Rattle.mi_value.specs.declared.value.Value.{Value}
use Rattle.mi_value.specs.declared.compare.KeyPart.{KeyPart}
use Rattle.mi_catalog.specs.declared.index.Index.{Index}
use Rattle.mi_catalog.specs.Kinds.{is_sorted, is_hashed, is_sequenced}
use Rattle.mi_catalog.specs.Shape.{Shape}
use Rattle.mi_model.specs.Table.{Table, IsTable}
use Rattle.mi_model.specs.Unique.{HasUniqueKeys}
use Rattle.mi_model.specs.View.{sorted}
use Rattle.mi_node.specs.Refs.{Ref}

-- a record, and for each index the stamp of its place there, which is 0 where the index has no stamps
pub record Content : Type 0 where
  pub values : List Value
  pub stamps : List ℕ

pub record Node : Type 0 where
  pub at : Ref
  pub content : Content

-- the neighbours that a node remembers in an index
pub record Link : Type 0 where
  pub back : Option Ref
  pub forth : Option Ref

-- a node that has left every index, and for each index its neighbours as it left
pub record Kept : Type 0 where
  pub node : Node
  pub links : List Link

-- an index stands by the ids; by its keys, sorted or hashed, and equal keys by their stamps; or by a list of its own
pub data Order : Type 0 where
  ById : Order
  ByKey : List KeyPart → Order
  ByHash : List KeyPart → Order
  Listed : List ℕ → Order

-- live nodes and kept ones, each by ids that ascend
pub record Data : Type 0 where
  pub rows : List (ℕ × Node)
  pub orders : List Order
  pub next : ℕ
  pub arrivals : ℕ
  pub kept : List (ℕ × Kept)

-- the order of the index of a number
abbrev pub order_at : List Order → ℕ → Order
order_at os x = slice_index_or os x ById

-- the parts of its keys
abbrev pub parts_of : Order → List KeyPart
parts_of ById = []
parts_of (ByKey ps) = ps
parts_of (ByHash ps) = ps
parts_of (Listed ids) = []

-- whether its places have stamps
abbrev pub has_stamps : Order → Bool
has_stamps ById = false
has_stamps (ByKey ps) = true
has_stamps (ByHash ps) = true
has_stamps (Listed ids) = false

abbrev pub node_of : List (ℕ × Node) → ℕ → Option Node
node_of rows e = lookup (λ k. k == e) rows

abbrev pub kept_of : List (ℕ × Kept) → ℕ → Option Kept
kept_of kept e = lookup (λ k. k == e) kept

-- the content of a node that is there
abbrev pub content_in : Option Node → Content
content_in None = record { values = []; stamps = [] }
content_in (Some n) = n.content

abbrev pub content_of : List (ℕ × Node) → ℕ → Content
content_of rows e = content_in (node_of rows e)

-- the stamp of an id in the index of a number
abbrev pub stamp_of : List (ℕ × Node) → ℕ → ℕ → ℕ
stamp_of rows x e = slice_index_or (content_of rows e).stamps x 0

abbrev pub ids_of : {A : Type 0} → List (ℕ × A) → List ℕ
ids_of rows = map (λ r. r.0) rows

-- the ids by their stamps in the index of number x
abbrev pub ids_by_stamp : ℕ → List (ℕ × Node) → List ℕ
ids_by_stamp x rows = sorted (on (stamp_of rows x) nat_cmp) (ids_of rows)

-- the list of the index of number x
abbrev pub listed : ℕ → List (ℕ × Node) → Order → List ℕ
listed x rows ById = ids_of rows
listed x rows (ByKey ps) = ids_by_stamp x rows
listed x rows (ByHash ps) = ids_by_stamp x rows
listed x rows (Listed ids) = ids

-- those of each index from number x on
abbrev pub lists_from : ℕ → List (ℕ × Node) → List Order → List (List ℕ)
lists_from x rows [] = []
lists_from x rows (o ∷ os) = listed x rows o ∷ lists_from (suc x) rows os

abbrev pub plain_row : ℕ × Node → ℕ × List Value
plain_row r = (r.0, r.1.content.values)

-- the table that the data mean
abbrev pub as_table : Data → Table
as_table d = record { rows = map plain_row d.rows; lists = lists_from 0 d.rows d.orders; next = d.next; arrivals = d.arrivals }

-- an order is that of an index of its kind, with its parts
abbrev pub KindFits : Index → Order → Type 0
KindFits i ById = (is_sorted i.kind ≡ true) × (i.parts ≡ [])
KindFits i (ByKey ps) = (is_sorted i.kind ≡ true) × (i.parts ≡ ps)
KindFits i (ByHash ps) = (is_hashed i.kind ≡ true) × (i.parts ≡ ps)
KindFits i (Listed ids) = (is_sequenced i.kind ≡ true) × (i.parts ≡ [])

abbrev pub KindsFit : List Index → List Order → Type 0
KindsFit [] [] = Unit {0}
KindsFit [] (o ∷ os) = ⊥
KindsFit (i ∷ is) [] = ⊥
KindsFit (i ∷ is) (o ∷ os) = KindFits i o × KindsFit is os

-- a stamp is earlier than the next arrival, and 0 where the index has none
abbrev pub StampFits : ℕ → Order → ℕ → Type 0
StampFits now ById a = a ≡ 0
StampFits now (ByKey ps) a = a < now
StampFits now (ByHash ps) a = a < now
StampFits now (Listed ids) a = a ≡ 0

abbrev pub StampsFit : ℕ → List Order → List ℕ → Type 0
StampsFit now [] [] = Unit {0}
StampsFit now [] (a ∷ stamps) = ⊥
StampsFit now (o ∷ os) [] = ⊥
StampsFit now (o ∷ os) (a ∷ stamps) = StampFits now o a × StampsFit now os stamps

-- each id is below those after it, and below next
abbrev pub Climbs : {A : Type 0} → ℕ → List (ℕ × A) → Type 0
Climbs next [] = Unit {0}
Climbs next (r ∷ rows) = (r.0 < next) × AllByRecursion (λ q. r.0 < q.0) rows × Climbs next rows

-- no two nodes have one name
abbrev pub NamesDiffer : List (ℕ × Node) → Type 0
NamesDiffer [] = Unit {0}
NamesDiffer (r ∷ rows) = AllByRecursion (λ q. q.1.at.name ≢ r.1.at.name) rows × NamesDiffer rows

-- what holds of the data of every container of a schema
pub record IsData (s : Shape) (d : Data) : Type 0 where
  -- they mean a table
  pub table : IsTable s (as_table d)
  -- in which no unique index has two rows of one key
  pub unique_keys : HasUniqueKeys s (as_table d)
  pub kinds : KindsFit s.indexes d.orders
  -- each live node has a stamp for each index
  pub stamped : (e : ℕ) (n : Node) → node_of d.rows e ≡ Some n → StampsFit d.arrivals d.orders n.content.stamps
  -- two live nodes have different stamps in each index that has them
  pub apart : (a b : ℕ) (n m : Node) (x : ℕ) → node_of d.rows a ≡ Some n → node_of d.rows b ≡ Some m → has_stamps (order_at d.orders x) ≡ true
      → slice_index_or n.content.stamps x 0 ≡ slice_index_or m.content.stamps x 0 → a ≡ b
  -- and different names
  pub names : NamesDiffer d.rows
  -- the ids of the kept nodes ascend, below next
  pub kept : Climbs d.next d.kept
  -- and are no ids of live nodes
  pub gone : (e : ℕ) (k : Kept) → kept_of d.kept e ≡ Some k → node_of d.rows e ≡ None
