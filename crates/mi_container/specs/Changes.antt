-- The changes of a container's data.
--     inserted, replaced, erased, relocated_in      a change
--     link_in, group      the neighbours that a node remembers, and the ids of one key
--     opened_data      the data that a container opens with
use Rattle.std.specs.Prelude.{ℕ, ◌+◌, ◌==◌, not, nat_lt, if◌then◌else◌, List, [], ◌∷◌, ◌++◌, map, slice_set, suc}
use Rattle.std.specs.List.{filter}
use Rattle.std.specs.Option.{option_map}
use Rattle.std.specs.Ordering.{is_eq}
use Rattle.std.specs.declared.option.Option.{Option}
use Rattle.std.specs.declared.option.Option.TheVariants.{None, Some}
use Rattle.mi_value.specs.declared.value.Value.{Value}
use Rattle.mi_value.specs.declared.compare.KeyPart.{KeyPart}
use Rattle.mi_value.specs.Order.{compare_key}
use Rattle.mi_catalog.specs.declared.index.Index.{Index}
use Rattle.mi_catalog.specs.declared.index.IndexKind.{IndexKind}
use Rattle.mi_catalog.specs.declared.index.IndexKind.TheVariants.{Ordered, Ranked, Hashed, Sequenced}
use Rattle.mi_catalog.specs.Shape.{Shape}
use Rattle.mi_model.specs.Change.{stand_before, stand, without, relocated}
use Rattle.mi_node.specs.Refs.{Ref}
use Rattle.mi_container.specs.Data.{Content, Node, Link, Kept, Order, Data, order_at, parts_of, node_of, content_of, ids_by_stamp}
use Rattle.mi_container.specs.Data.Order.{ById, ByKey, ByHash, Listed}

-- a pair at its place among ids that ascend
abbrev pub entered : {A : Type 0} → ℕ → A → List (ℕ × A) → List (ℕ × A)
entered e n [] = (e, n) ∷ []
entered e n (r ∷ rows) = if nat_lt e r.0 then (e, n) ∷ r ∷ rows else r ∷ entered e n rows

-- the pairs without that id
abbrev pub left_out : {A : Type 0} → ℕ → List (ℕ × A) → List (ℕ × A)
left_out e rows = filter (λ r. not (r.0 == e)) rows

-- another content in the node of e
abbrev pub with_content : ℕ → Content → List (ℕ × Node) → List (ℕ × Node)
with_content e c [] = []
with_content e c (r ∷ rows) = if r.0 == e then (r.0, record { at = r.1.at; content = c }) ∷ rows else r ∷ with_content e c rows

-- a change of an index's own list
abbrev pub in_order : (List ℕ → List ℕ) → Order → Order
in_order f ById = ById
in_order f (ByKey ps) = ByKey ps
in_order f (ByHash ps) = ByHash ps
in_order f (Listed ids) = Listed (f ids)

-- Insert

-- the stamp of a new place
abbrev pub new_stamp : ℕ → Order → ℕ
new_stamp now ById = 0
new_stamp now (ByKey ps) = now
new_stamp now (ByHash ps) = now
new_stamp now (Listed ids) = 0

abbrev pub new_node : Ref → List Value → Data → Node
new_node at r d = record { at = at; content = record { values = r; stamps = map (new_stamp d.arrivals) d.orders } }

abbrev pub orders_with : Option (ℕ × ℕ) → ℕ → List Order → List Order
orders_with None e os = map (in_order (stand None e)) os
orders_with (Some p) e os = slice_set (map (in_order (stand None e)) os) p.0 (in_order (stand_before p.1 e) (order_at os p.0))

-- a new row in the node of that reference
abbrev pub inserted : Option (ℕ × ℕ) → Ref → List Value → Data → Data
inserted place at r d = record d {
  rows = d.rows ++ (d.next, new_node at r d) ∷ [];
  orders = orders_with place d.next d.orders;
  next = d.next + 1;
  arrivals = d.arrivals + 1;
}

-- Put

-- a new stamp where the key changes
abbrev pub restamped : List Order → List Value → List Value → ℕ → List ℕ → List ℕ
restamped [] old new now stamps = stamps
restamped (o ∷ os) old new now [] = []
restamped (o ∷ os) old new now (a ∷ stamps) = (if is_eq (compare_key (parts_of o) old new) then a else now) ∷ restamped os old new now stamps

abbrev pub new_content : List Order → List Value → ℕ → Content → Content
new_content os r now old = record { values = r; stamps = restamped os old.values r now old.stamps }

abbrev pub replaced : ℕ → List Value → Data → Data
replaced e r d = record d { rows = with_content e (new_content d.orders r d.arrivals (content_of d.rows e)) d.rows; arrivals = d.arrivals + 1 }

-- Erase

-- the reference of an id that is given, if it is live
abbrev pub ref_of : List (ℕ × Node) → Option ℕ → Option Ref
ref_of rows None = None
ref_of rows (Some e) = option_map (λ n. n.at) (node_of rows e)

abbrev pub head_of : List ℕ → Option ℕ
head_of [] = None
head_of (a ∷ ids) = Some a

-- the id after e in a list
abbrev pub next_in : ℕ → List ℕ → Option ℕ
next_in e [] = None
next_in e (a ∷ ids) = if a == e then head_of ids else next_in e ids

-- the id before e, where p stands before the list
abbrev pub prev_in : Option ℕ → ℕ → List ℕ → Option ℕ
prev_in p e [] = None
prev_in p e (a ∷ ids) = if a == e then p else prev_in (Some a) e ids

-- the references of the neighbours of e in a list
abbrev pub link_of_id : List (ℕ × Node) → ℕ → List ℕ → Link
link_of_id rows e ids = record { back = ref_of rows (prev_in None e ids); forth = ref_of rows (next_in e ids) }

-- the ids that have r's key in the hashed index of number x, by their stamps
abbrev pub group : List KeyPart → ℕ → List (ℕ × Node) → List Value → List ℕ
group ps x rows r = filter (λ a. is_eq (compare_key ps r (content_of rows a).values)) (ids_by_stamp x rows)

-- what e remembers in the index of number x: its neighbours in the list, or of its key where the index is hashed
abbrev pub link_in : ℕ → List (ℕ × Node) → ℕ → Order → Link
link_in x rows e ById = record { back = None; forth = None }
link_in x rows e (ByKey ps) = record { back = None; forth = None }
link_in x rows e (ByHash ps) = link_of_id rows e (group ps x rows (content_of rows e).values)
link_in x rows e (Listed ids) = link_of_id rows e ids

abbrev pub links_from : ℕ → List (ℕ × Node) → ℕ → List Order → List Link
links_from x rows e [] = []
links_from x rows e (o ∷ os) = link_in x rows e o ∷ links_from (suc x) rows e os

-- what is kept of a node
abbrev pub kept_node : ℕ → Node → Data → Kept
kept_node e n d = record { node = n; links = links_from 0 d.rows e d.orders }

abbrev pub erased_node : ℕ → Option Node → Data → Data
erased_node e None d = d
erased_node e (Some n) d = record d {
  rows = left_out e d.rows;
  orders = map (in_order (without e)) d.orders;
  kept = entered e (kept_node e n d) d.kept;
}

-- the node of e leaves every index, and is kept
abbrev pub erased : ℕ → Data → Data
erased e d = erased_node e (node_of d.rows e) d

-- Relocate

abbrev pub moved_order : ℕ → (List ℕ → List ℕ) → List Order → List Order
moved_order x f os = slice_set os x (in_order f (order_at os x))

abbrev pub relocated_in : ℕ → ℕ → Option ℕ → Data → Data
relocated_in x e b d = record d { orders = moved_order x (relocated b e) d.orders }

-- Open

abbrev pub sorted_order : List KeyPart → Order
sorted_order [] = ById
sorted_order (p ∷ ps) = ByKey (p ∷ ps)

abbrev pub order_for : IndexKind → List KeyPart → Order
order_for Ordered ps = sorted_order ps
order_for Ranked ps = sorted_order ps
order_for Hashed ps = ByHash ps
order_for Sequenced ps = Listed []

abbrev pub opened_data : Shape → Data
opened_data s = record { rows = []; orders = map (λ (i : Index). order_for i.kind i.parts) s.indexes; next = s.first_id; arrivals = s.first_arrival; kept = [] }
