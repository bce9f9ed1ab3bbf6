-- The definitions at work on small tables: what commands leave and what an index then shows. Each statement is proved by computation.
use Rattle.std.specs.Prelude.{◌≡◌, ℕ, pos, Bool, true, false, List, [], ◌∷◌, ◌++◌, codes, map, slice_set}
use Rattle.std.specs.declared.option.Option.TheVariants.{None, Some}
use Rattle.std.specs.declared.result.Result.TheVariants.{Ok, Err}
use Rattle.mi_value.specs.declared.value.Value.{Value}
use Rattle.mi_value.specs.declared.value.Value.TheVariants.{Int, Text, Flag}
use Rattle.mi_value.specs.declared.value.ColumnType.TheVariants as column
use Rattle.mi_value.specs.declared.edit.Edit.{Edit}
use Rattle.mi_value.specs.declared.edit.Edit.TheVariants.{Put, Add}
use Rattle.mi_value.specs.declared.bound.Lower.TheVariants as lower
use Rattle.mi_value.specs.declared.bound.Upper.TheVariants as upper
use Rattle.mi_value.specs.declared.refusal.Refusal.TheVariants.{NoId, Range, Full, Unique, Lost}
use Rattle.mi_catalog.specs.declared.index.IndexKind.TheVariants.{Ordered, Ranked}
use Rattle.mi_catalog.specs.Shape.{Shape, CatalogShape}
use Rattle.mi_catalog.specs.Accounts.{accounts}
use Rattle.mi_model.specs.Table.{Table, get, size, list_of}
use Rattle.mi_model.specs.View.{view}
use Rattle.mi_model.specs.Verdict.{insert_outcome, modify_outcome, relocate_outcome, erase_key_outcome}
use Rattle.mi_model.specs.LookUp.{after, before, last, first_with_key, next_with_key, rank, nth, lower_rank, upper_rank, find, count}
use Rattle.mi_model.specs.Page.{range}
use Rattle.mi_model.specs.Database.{Database, opened_database, table_of, on_table, depth, undo_step, commit_step, undo_all_step}
use Rattle.mi_model.specs.Run.{Command, run}
use Rattle.mi_model.specs.Same.{SameTable}
use Rattle.mi_model.specs.Footprint.{kept_after}
use Rattle.mi_model.specs.Run.Command.{Insert, Replace, Modify, Erase, EraseKey, Relocate, Start, Undo, Squash, Commit, UndoAll}

abbrev pub start_state : Database
start_state = opened_database (record { tables = accounts ∷ []; first_revision = 0 })

abbrev pub account : List ℕ → ℕ → Bool → List Value
account owner balance vip = Text owner ∷ Int (pos balance) ∷ Flag vip ∷ []

-- an insert at the end, and the table after commands
abbrev pub ins : List ℕ → ℕ → Bool → Command
ins owner balance vip = Insert 0 None (account owner balance vip)

abbrev pub db : List Command → Database
db cs = run cs start_state

abbrev pub table : List Command → Table
table cs = table_of (db cs) 0

abbrev pub class : Table → List ℕ
class t = view accounts t 4

abbrev pub line : Table → List ℕ
line t = view accounts t 5

abbrev pub flag : Bool → List Value
flag b = Flag b ∷ []

abbrev pub number : ℕ → List Value
number n = Int (pos n) ∷ []

-- three accounts of one balance
abbrev pub equals : List Command
equals = ins (codes "a") 5 false ∷ ins (codes "b") 5 false ∷ ins (codes "c") 5 true ∷ []

abbrev pub EqualKeysHaveRanks : Type 0
EqualKeysHaveRanks = map (rank accounts (table equals) 2) (0 ∷ 1 ∷ 2 ∷ []) ≡ 0 ∷ 1 ∷ 2 ∷ []

abbrev pub RanksEnd : Type 0
RanksEnd = (nth accounts (table equals) 2 2 ≡ Some 2) × (nth accounts (table equals) 2 3 ≡ None)

abbrev pub BoundsOfEqualKeys : Type 0
BoundsOfEqualKeys = (lower_rank accounts (table equals) 2 (number 5) ≡ 0)
    × (upper_rank accounts (table equals) 2 (number 5) ≡ 3) × (count accounts (table equals) 2 (number 5) ≡ 3)

abbrev pub ViewsOfEqualKeys : Type 0
ViewsOfEqualKeys = (class (table equals) ≡ 2 ∷ 0 ∷ 1 ∷ []) × (find accounts (table equals) 3 (flag false) ≡ Some 0)

-- a key that stays keeps its place; one that changes goes last
abbrev pub same_balance : List Command
same_balance = equals ++ Replace 0 0 (account (codes "a") 5 true) ∷ []

abbrev pub there_and_back : List Command
there_and_back = same_balance ++ Replace 0 0 (account (codes "a") 6 true) ∷ Replace 0 0 (account (codes "a") 5 true) ∷ []

abbrev pub KeyThatStaysKeepsItsPlace : Type 0
KeyThatStaysKeepsItsPlace = (view accounts (table same_balance) 2 ≡ 0 ∷ 1 ∷ 2 ∷ [])
    × (find accounts (table same_balance) 3 (flag true) ≡ Some 2) × (line (table same_balance) ≡ 0 ∷ 1 ∷ 2 ∷ [])

abbrev pub KeyThatChangesGoesLast : Type 0
KeyThatChangesGoesLast = (view accounts (table there_and_back) 2 ≡ 1 ∷ 2 ∷ 0 ∷ []) × (class (table there_and_back) ≡ 2 ∷ 0 ∷ 1 ∷ [])

-- a modify that loses
abbrev pub three : List Command
three = ins (codes "a") 1 false ∷ ins (codes "b") 2 false ∷ ins (codes "c") 3 false ∷ []

abbrev pub to_a : List Edit
to_a = Put 0 (Text (codes "a")) ∷ []

abbrev pub RollbackChangesNothing : Type 0
RollbackChangesNothing = modify_outcome accounts 1 to_a true (table three) ≡ (Err (Unique 1 0), table three)

abbrev pub LosingModifyIsRefused : Type 0
LosingModifyIsRefused = (modify_outcome accounts 1 to_a false (table three)).0 ≡ Err (Lost 1 0)

abbrev pub lost : Table
lost = table (three ++ Modify 0 1 to_a false ∷ [])

abbrev pub LosingModifyErases : Type 0
LosingModifyErases = (get lost 1 ≡ None) × (line lost ≡ 0 ∷ 2 ∷ []) × (rank accounts lost 2 2 ≡ 1)

abbrev pub UndoOfALosingModify : Type 0
UndoOfALosingModify = db (three ++ Start ∷ Modify 0 1 to_a false ∷ Undo ∷ []) ≡ db three

-- an addition up to the last number
abbrev pub rich : List Command
rich = ins (codes "a") 9223372036854775806 false ∷ Modify 0 0 (Add 1 (pos 1) ∷ []) false ∷ []

abbrev pub AdditionToTheLastNumber : Type 0
AdditionToTheLastNumber = (get (table rich) 0 ≡ Some (account (codes "a") 9223372036854775807 false))
    × ((modify_outcome accounts 0 (Add 1 (pos 1) ∷ []) false (table rich)).0 ≡ Err Range)

abbrev pub Relocations : Type 0
Relocations = (line (table (three ++ Relocate 0 5 0 (Some 0) ∷ [])) ≡ 0 ∷ 1 ∷ 2 ∷ [])
    × (line (table (three ++ Relocate 0 5 0 (Some 0) ∷ Relocate 0 5 0 None ∷ [])) ≡ 1 ∷ 2 ∷ 0 ∷ [])
    × (line (table (three ++ Relocate 0 5 0 None ∷ Relocate 0 5 2 (Some 1) ∷ [])) ≡ 2 ∷ 1 ∷ 0 ∷ [])
    × ((relocate_outcome 5 7 (Some 0) (table three)).0 ≡ Err NoId)

-- ranges by a composite key with a descending part
abbrev pub classes : Table
classes = table (ins (codes "a") 1 true ∷ ins (codes "b") 2 false ∷ ins (codes "c") 3 true ∷ [])

abbrev pub pair : Bool → ℕ → List Value
pair b n = Flag b ∷ Int (pos n) ∷ []

abbrev pub CompositeRanges : Type 0
CompositeRanges = (range accounts classes 4 (lower.From (flag false)) upper.All false 1000 ≡ record { ids = 1 ∷ []; more = false })
    × (range accounts classes 4 lower.All (upper.UpTo (flag true)) false 1000 ≡ record { ids = 0 ∷ 2 ∷ []; more = false })
    × (range accounts classes 4 lower.All (upper.UpTo (flag true)) true 1000 ≡ record { ids = 2 ∷ 0 ∷ []; more = false })
    × (range accounts classes 4 (lower.Beyond (pair true 1)) (upper.Below (flag false)) false 1000 ≡ record { ids = 2 ∷ []; more = false })
    × (range accounts classes 4 (lower.Beyond (flag false)) (upper.Below (flag true)) false 1000 ≡ record { ids = []; more = false })
    × (range accounts classes 4 (lower.From (pair true 3)) upper.All false 1 ≡ record { ids = 2 ∷ []; more = true })

-- erased rows come back to their places
abbrev pub four : List Command
four = ins (codes "a") 5 false ∷ ins (codes "b") 5 false ∷ ins (codes "c") 5 false ∷ ins (codes "d") 5 false ∷ []

abbrev pub thinned : List Command
thinned = four ++ Start ∷ Erase 0 1 ∷ Erase 0 2 ∷ Relocate 0 5 3 (Some 0) ∷ []

abbrev pub ErasedRowsComeBack : Type 0
ErasedRowsComeBack = (line (table thinned) ≡ 3 ∷ 0 ∷ []) × (line (table (thinned ++ Undo ∷ [])) ≡ 0 ∷ 1 ∷ 2 ∷ 3 ∷ [])
    × (view accounts (table (thinned ++ Undo ∷ [])) 2 ≡ 0 ∷ 1 ∷ 2 ∷ 3 ∷ [])

-- a squash, an undo, and an undo with none open
abbrev pub squashing : List Command
squashing = ins (codes "a") 1 false ∷ Start ∷ ins (codes "b") 1 false ∷ Start ∷ Modify 0 0 (Add 1 (pos 4) ∷ []) false ∷ Squash ∷ []

abbrev pub SquashKeepsChanges : Type 0
SquashKeepsChanges = ((db squashing).revision ≡ 1) × (get (table squashing) 0 ≡ Some (account (codes "a") 5 false))

abbrev pub UndoOfASquash : Type 0
UndoOfASquash = (db (squashing ++ Undo ∷ []) ≡ db (ins (codes "a") 1 false ∷ [])) × ((undo_step (db (squashing ++ Undo ∷ []))).0 ≡ Err (record {}))

abbrev pub IdsComeBack : Type 0
IdsComeBack = (on_table 0 (λ s t. insert_outcome s None (account (codes "b") 1 false) t) (db (squashing ++ Undo ∷ []))).0 ≡ Ok 1

-- a commit ends the oldest session
abbrev pub committing : List Command
committing = Start ∷ ins (codes "a") 1 false ∷ Start ∷ ins (codes "b") 2 false ∷ []

abbrev pub CommitEndsTheOldest : Type 0
CommitEndsTheOldest = ((commit_step 1 (db committing)).0 ≡ Ok 1)
    × ((db (committing ++ Commit 1 ∷ [])).revision ≡ 2) × (depth (db (committing ++ Commit 1 ∷ [])) ≡ 1)
    × ((db (committing ++ Commit 1 ∷ Undo ∷ [])).revision ≡ 1) × (size (table (committing ++ Commit 1 ∷ Undo ∷ [])) ≡ 1)
    × ((commit_step 0 (db (committing ++ Commit 1 ∷ Undo ∷ []))).0 ≡ Ok 0)
    × ((undo_step (db (committing ++ Commit 1 ∷ Undo ∷ []))).0 ≡ Err (record {}))

-- rows erased by key, and undone
abbrev pub vips : List Command
vips = ins (codes "a") 1 true ∷ ins (codes "b") 2 true ∷ ins (codes "c") 3 false ∷ []

abbrev pub erasing : List Command
erasing = vips ++ Start ∷ EraseKey 0 3 (flag true) ∷ Start ∷ EraseKey 0 3 (flag true) ∷ []

abbrev pub UndoAllOfErasesByKey : Type 0
UndoAllOfErasesByKey = ((erase_key_outcome accounts 3 (flag true) (table vips)).0 ≡ Ok 2)
    × ((erase_key_outcome accounts 3 (flag true) (table erasing)).0 ≡ Ok 0)
    × ((undo_all_step (db erasing)).0 ≡ Ok 2) × (db (erasing ++ UndoAll ∷ []) ≡ db vips)
    × (line (table (erasing ++ UndoAll ∷ [])) ≡ 0 ∷ 1 ∷ 2 ∷ []) × (rank accounts (table (erasing ++ UndoAll ∷ [])) 2 2 ≡ 2)

-- insert directly before a row
abbrev pub inserted_before : List Command
inserted_before = ins (codes "a") 5 false ∷ ins (codes "b") 5 false ∷ Insert 0 (Some (5, 1)) (account (codes "c") 5 false) ∷ []

abbrev pub InsertBeforeARow : Type 0
InsertBeforeARow = (line (table inserted_before) ≡ 0 ∷ 2 ∷ 1 ∷ []) × (view accounts (table inserted_before) 2 ≡ 0 ∷ 1 ∷ 2 ∷ [])
    × ((insert_outcome accounts (Some (5, 9)) (account (codes "a") 5 false) (table inserted_before)).0 ≡ Err NoId)
    × ((insert_outcome accounts (Some (5, 1)) (account (codes "a") 5 false) (table inserted_before)).0 ≡ Err (Unique 1 0))

abbrev pub before_and_undone : List Command
before_and_undone = inserted_before ++ Start ∷ Insert 0 (Some (5, 0)) (account (codes "d") 5 false) ∷ []

abbrev pub UndoOfInsertBefore : Type 0
UndoOfInsertBefore = (line (table before_and_undone) ≡ 3 ∷ 0 ∷ 2 ∷ 1 ∷ []) × (line (table (before_and_undone ++ Erase 0 0 ∷ Undo ∷ [])) ≡ 0 ∷ 2 ∷ 1 ∷ [])

-- two tables under one stack of sessions
abbrev pub two_tables : Database
two_tables = opened_database (record {
  tables =
      record {
        table_name = codes "a";
        columns = record { name = codes "k"; kind = column.Int } ∷ [];
        indexes =
            record { name = codes "id"; kind = Ranked; «unique» = true; parts = [] }
            ∷ record { name = codes "u"; kind = Ordered; «unique» = true; parts = record { column = 0; descending = false } ∷ [] } ∷ [];
        first_id = 0;
        first_arrival = 0;
        first_revision = 0;
        max_rows = 1000000;
      }
      ∷ record {
        table_name = codes "b";
        columns = record { name = codes "t"; kind = column.Text } ∷ [];
        indexes = record { name = codes "id"; kind = Ranked; «unique» = true; parts = [] } ∷ [];
        first_id = 10;
        first_arrival = 0;
        first_revision = 0;
        max_rows = 1;
      } ∷ [];
  first_revision = 0;
})

abbrev pub in_two : Database
in_two = run (Insert 0 None (number 5) ∷ Start ∷ Insert 1 None (Text (codes "x") ∷ []) ∷ Replace 0 0 (number 6) ∷ []) two_tables

abbrev pub TablesUnderOneStack : Type 0
TablesUnderOneStack = ((on_table 1 (λ s t. insert_outcome s None (Text (codes "y") ∷ []) t) in_two).0 ≡ Err Full)
    × ((on_table 0 (λ s t. insert_outcome s None (number 6) t) in_two).0 ≡ Err (Unique 1 0))
    × (run (Undo ∷ []) in_two ≡ run (Insert 0 None (number 5) ∷ []) two_tables)

-- the rows that are kept for a session, and after it
abbrev pub RowsKeptForASession : Type 0
RowsKeptForASession = (kept_after (Erase 0 2) (db (four ++ Start ∷ Erase 0 1 ∷ []))
    (kept_after (Erase 0 1) (db (four ++ Start ∷ [])) (kept_after Start (db four) []))
    ≡ ((0, 1) ∷ (0, 2) ∷ []) ∷ [])
    × (kept_after Undo (db thinned) (((0, 1) ∷ (0, 2) ∷ []) ∷ []) ≡ [])
    × (kept_after (Modify 0 1 to_a false) (db (three ++ Start ∷ [])) ([] ∷ []) ≡ ((0, 1) ∷ []) ∷ [])

-- the ids of one key of a hashed index, one after another
abbrev pub NeighboursOfOneKey : Type 0
NeighboursOfOneKey = (first_with_key accounts (table vips) 3 (flag true) ≡ Some 0)
    × (next_with_key accounts (table vips) 3 0 ≡ Some 1) × (next_with_key accounts (table vips) 3 1 ≡ None)
    × (after accounts (table vips) 2 1 ≡ Some 2) × (before accounts (table vips) 2 0 ≡ None) × (last accounts (table vips) 5 ≡ Some 2)
    × (last accounts (table (vips ++ Erase 0 0 ∷ [])) 5 ≡ Some 2)

-- one id in two tables is two rows
abbrev pub from_zero : CatalogShape → CatalogShape
from_zero c = record c { tables = map (λ (s : Shape). record s { first_id = 0 }) c.tables }

abbrev pub both_from_zero : Database
both_from_zero = run (Insert 0 None (number 1) ∷ Insert 1 None (Text (codes "x") ∷ []) ∷ Erase 0 0 ∷ []) (opened_database (from_zero two_tables.catalog))

abbrev pub OneIdInTwoTables : Type 0
OneIdInTwoTables = (get (table_of both_from_zero 0) 0 ≡ None)
    × (get (table_of both_from_zero 1) 0 ≡ Some (Text (codes "x") ∷ [])) × (size (table_of both_from_zero 1) ≡ 1)

-- two rows of different keys, in either order in the list of a hashed index
abbrev pub one_vip : Table
one_vip = table (ins (codes "a") 1 true ∷ ins (codes "b") 2 false ∷ [])

abbrev pub one_vip_later : Table
one_vip_later = record one_vip { lists = slice_set one_vip.lists 3 (1 ∷ 0 ∷ []) }

abbrev pub KeysOfAHashedIndexHaveNoOrder : Type 0
KeysOfAHashedIndexHaveNoOrder = (list_of one_vip 3 ≡ 0 ∷ 1 ∷ []) × (list_of one_vip_later 3 ≡ 1 ∷ 0 ∷ []) × SameTable accounts one_vip one_vip_later
