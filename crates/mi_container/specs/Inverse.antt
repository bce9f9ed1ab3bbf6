-- The inverse of each change, and how an inverse is taken back or settled.
--     Inverse      what takes a change back: plain data
--     keeps, lost_to      the row whose node it keeps, and the conflict by which a modify lost its row
--     taken_back, settled      the data without the change, and without the node that is kept for it
use Rattle.std.specs.Prelude.{ℕ, ◌-◌, ◌==◌, if◌then◌else◌, List, [], ◌∷◌, map, suc}
use Rattle.std.specs.Option.{option_map}
use Rattle.std.specs.Ordering.{is_eq}
use Rattle.std.specs.declared.option.Option.{Option}
use Rattle.std.specs.declared.option.Option.TheVariants.{None, Some}
use Rattle.mi_value.specs.declared.value.Value.{Value}
use Rattle.mi_value.specs.Order.{compare_key}
use Rattle.mi_model.specs.Change.{stand, without}
use Rattle.mi_node.specs.Refs.{Ref}
use Rattle.mi_container.specs.Data.{Content, Node, Link, Kept, Order, Data, order_at, parts_of, node_of, kept_of, content_of}
use Rattle.mi_container.specs.Data.Order.{ById, ByKey, ByHash, Listed}
use Rattle.mi_container.specs.Changes.{entered, left_out, with_content, in_order, next_in, link_in, moved_order}

-- a row by its id, with the reference of its node
pub record RowRef : Type 0 where
  pub id : ℕ
  pub at : Ref

-- the place that a record had in an index before its key changed there
pub record OldPlace : Type 0 where
  pub stamp : ℕ
  pub link : Link

-- the record that a node had, and for each index its place there, if the key changed
pub record Old : Type 0 where
  pub values : List Value
  pub places : List (Option OldPlace)

-- what takes a change back
pub data Inverse : Type 0 where
  -- the row was inserted
  Inserted : RowRef → Inverse
  -- the row had this record, in these places
  Put : RowRef → Old → Inverse
  -- the row was erased and its node is kept; by a modify that lost it to that index and id
  Erased : RowRef → Option (ℕ × ℕ) → Inverse
  -- in this index the row stood before that one, or last
  Relocated : ℕ → RowRef → Option RowRef → Inverse
  -- nothing was changed
  Nothing : Inverse

-- the id of the row whose node an inverse keeps
abbrev pub keeps : Inverse → Option ℕ
keeps (Inserted r) = None
keeps (Put r old) = None
keeps (Erased r why) = Some r.id
keeps (Relocated x r b) = None
keeps Nothing = None

-- the index and the id by which a modify lost its row
abbrev pub lost_to : Inverse → Option (ℕ × ℕ)
lost_to (Inserted r) = None
lost_to (Put r old) = None
lost_to (Erased r why) = why
lost_to (Relocated x r b) = None
lost_to Nothing = None

-- the inverses

abbrev pub at_in : Option Node → Ref
at_in None = record { name = 0; generation = 0 }
at_in (Some n) = n.at

-- a live row
abbrev pub row_ref : List (ℕ × Node) → ℕ → RowRef
row_ref rows e = record { id = e; at = at_in (node_of rows e) }

abbrev pub insert_inverse : Ref → Data → Inverse
insert_inverse at d = Inserted (record { id = d.next; at = at })

abbrev pub old_place : ℕ → List (ℕ × Node) → ℕ → List Value → List Value → Order → ℕ → Option OldPlace
old_place x rows e old new o a = if is_eq (compare_key (parts_of o) old new) then None else Some (record { stamp = a; link = link_in x rows e o })

-- those of the indexes from number x on
abbrev pub old_places : ℕ → List (ℕ × Node) → ℕ → List Value → List Value → List Order → List ℕ → List (Option OldPlace)
old_places x rows e old new [] stamps = []
old_places x rows e old new (o ∷ os) [] = []
old_places x rows e old new (o ∷ os) (a ∷ stamps) = old_place x rows e old new o a ∷ old_places (suc x) rows e old new os stamps

abbrev pub old_record : ℕ → List Value → Content → Data → Old
old_record e r was d = record { values = was.values; places = old_places 0 d.rows e was.values r d.orders was.stamps }

-- of a put of r
abbrev pub put_inverse : ℕ → List Value → Data → Inverse
put_inverse e r d = Put (row_ref d.rows e) (old_record e r (content_of d.rows e) d)

abbrev pub erase_inverse : ℕ → Option (ℕ × ℕ) → Data → Inverse
erase_inverse e why d = Erased (row_ref d.rows e) why

-- the id behind e in the list of an index
abbrev pub next_in_order : ℕ → Order → Option ℕ
next_in_order e ById = None
next_in_order e (ByKey ps) = None
next_in_order e (ByHash ps) = None
next_in_order e (Listed ids) = next_in e ids

abbrev pub moved_back : ℕ → ℕ → Data → Inverse
moved_back x e d = Relocated x (row_ref d.rows e) (option_map (row_ref d.rows) (next_in_order e (order_at d.orders x)))

abbrev pub relocate_inverse : ℕ → ℕ → Option ℕ → Data → Inverse
relocate_inverse x e None d = moved_back x e d
relocate_inverse x e (Some b) d = if b == e then Nothing else moved_back x e d

-- Back

-- the id of the row whose node has that name
abbrev pub id_named : ℕ → List (ℕ × Node) → Option ℕ
id_named name [] = None
id_named name (r ∷ rows) = if r.1.at.name == name then Some r.0 else id_named name rows

abbrev pub id_of_ref : List (ℕ × Node) → Option Ref → Option ℕ
id_of_ref rows None = None
id_of_ref rows (Some r) = id_named r.name rows

-- e stands again before the neighbour that its node remembers
abbrev pub relinked : List (ℕ × Node) → ℕ → List Link → List Order → List Order
relinked rows e [] os = []
relinked rows e (l ∷ ls) [] = []
relinked rows e (l ∷ ls) (o ∷ os) = in_order (stand (id_of_ref rows l.forth) e) o ∷ relinked rows e ls os

abbrev pub row_returned : ℕ → Option Kept → Data → Data
row_returned e None d = d
row_returned e (Some k) d = record d { rows = entered e k.node d.rows; orders = relinked d.rows e k.links d.orders; kept = left_out e d.kept }

abbrev pub stamp_back : Option OldPlace → ℕ → ℕ
stamp_back None a = a
stamp_back (Some was) a = was.stamp

abbrev pub stamps_back : List (Option OldPlace) → List ℕ → List ℕ
stamps_back [] stamps = stamps
stamps_back (p ∷ ps) [] = []
stamps_back (p ∷ ps) (a ∷ stamps) = stamp_back p a ∷ stamps_back ps stamps

abbrev pub old_content : Old → Content → Content
old_content old now = record { values = old.values; stamps = stamps_back old.places now.stamps }

-- the data without the change of an inverse, from what the inverse and the kept node remember
abbrev pub taken_back : Inverse → Data → Data
taken_back (Inserted r) d = record d {
  rows = left_out r.id d.rows;
  orders = map (in_order (without r.id)) d.orders;
  next = d.next - 1;
  arrivals = d.arrivals - 1;
}
taken_back (Put r old) d = record d { rows = with_content r.id (old_content old (content_of d.rows r.id)) d.rows; arrivals = d.arrivals - 1 }
taken_back (Erased r why) d = row_returned r.id (kept_of d.kept r.id) d
taken_back (Relocated x r b) d = record d { orders = moved_order x (λ ids. stand (option_map (λ (q : RowRef). q.id) b) r.id (without r.id ids)) d.orders }
taken_back Nothing d = d

-- the node that it keeps is freed
abbrev pub settled : Inverse → Data → Data
settled (Inserted r) d = d
settled (Put r old) d = d
settled (Erased r why) d = record d { kept = left_out r.id d.kept }
settled (Relocated x r b) d = d
settled Nothing d = d
