-- A database of one table with sessions of its own, defined without catalogs; one in a catalog by itself answers and changes as it does.
use Rattle.std.specs.Prelude.{◌≡◌, ℕ, ◌+◌, ◌-◌, min, ◌==◌, if◌then◌else◌, Bool, List, [], ◌∷◌, map, take, length}
use Rattle.std.specs.declared.option.Option.{Option}
use Rattle.std.specs.declared.result.Result.{Result}
use Rattle.std.specs.declared.result.Result.TheVariants.{Ok, Err}
use Rattle.mi_value.specs.declared.value.Value.{Value}
use Rattle.mi_value.specs.declared.edit.Edit.{Edit}
use Rattle.mi_value.specs.declared.refusal.Refusal.{Refusal}
use Rattle.mi_value.specs.declared.refusal.Refusal.TheVariants.{Spent, Depth}
use Rattle.mi_value.specs.declared.refusal.NoSession.{NoSession}
use Rattle.mi_value.specs.declared.limits.TheConstants.{MAX_SESSIONS}
use Rattle.mi_catalog.specs.Shape.{Shape}
use Rattle.mi_model.specs.Table.{Table, opened}
use Rattle.mi_model.specs.Verdict.{Outcome, is_spent, insert_outcome, replace_outcome, modify_outcome, erase_outcome, erase_key_outcome, relocate_outcome}
use Rattle.mi_model.specs.Database.{Database, opened_database, schema_of, table_of, start_step, undo_step, squash_step, commit_step, undo_all_step}
use Rattle.mi_model.specs.DatabaseChange.{insert_step, replace_step, modify_step, erase_step, erase_key_step, relocate_step}

-- the table, what it was at the start of each open session with the newest first, and the revision
pub record OneTable : Type 0 where
  pub table : Table
  pub old : List Table
  pub revision : ℕ

abbrev pub opened_table : ℕ → Shape → OneTable
opened_table first s = record { table = opened s; old = []; revision = first }

-- a change answers as the table does, and what that leaves is the table
abbrev pub applied : {A : Type 0} → (Table → Outcome A) → OneTable → Result A Refusal × OneTable
applied change d = ((change d.table).0, record d { table = (change d.table).1 })

-- a start keeps the table as it is now
abbrev pub start : OneTable → Result ℕ Refusal × OneTable
start d =
    if is_spent d.revision then (Err Spent, d)
    else if length d.old == MAX_SESSIONS then (Err Depth, d)
    else (Ok (d.revision + 1), record d { old = d.table ∷ d.old; revision = d.revision + 1 })

-- an undo makes the newest kept table current, a squash forgets it
abbrev pub undo_to : OneTable → List Table → Result ℕ NoSession × OneTable
undo_to d [] = (Err (record {}), d)
undo_to d (t ∷ old) = (Ok (d.revision - 1), record { table = t; old = old; revision = d.revision - 1 })

abbrev pub squash_to : OneTable → List Table → Result ℕ NoSession × OneTable
squash_to d [] = (Err (record {}), d)
squash_to d (t ∷ old) = (Ok (d.revision - 1), record d { old = old; revision = d.revision - 1 })

-- a commit up to x forgets the tables of the oldest sessions, whose numbers go from revision - depth + 1 to x
abbrev pub commit : ℕ → OneTable → Result ℕ Refusal × OneTable
commit x d = let ended = min (length d.old) (x + length d.old - d.revision) in (Ok ended, record d { old = take (length d.old - ended) d.old })

-- the oldest of the kept tables, or where none is kept the current one
abbrev pub oldest : Table → List Table → Table
oldest t [] = t
oldest t (u ∷ old) = oldest u old

abbrev pub undo_all : OneTable → Result ℕ Refusal × OneTable
undo_all d = (Ok (length d.old), record { table = oldest d.table d.old; old = []; revision = d.revision - length d.old })

-- the database of a catalog of one table
abbrev pub in_catalog : ℕ → Shape → OneTable → Database
in_catalog first s d = record {
  catalog = record { tables = s ∷ []; first_revision = first };
  tables = d.table ∷ [];
  old = map (λ t. t ∷ []) d.old;
  revision = d.revision;
}

abbrev pub and_in_catalog : {A : Type 0} → ℕ → Shape → A × OneTable → A × Database
and_in_catalog first s step = (step.0, in_catalog first s step.1)

-- it opens so, its table is found by number 0, and each command over table 0 answers and leaves what the one table does
pub record IsAsOneTable (first : ℕ) (s : Shape) (d : OneTable) : Type 0 where
  pub opening : opened_database (in_catalog first s d).catalog ≡ in_catalog first s (opened_table first s)
  pub schema : schema_of (in_catalog first s d) 0 ≡ s
  pub table : table_of (in_catalog first s d) 0 ≡ d.table
  pub insert : (at : Option (ℕ × ℕ)) (r : List Value) → insert_step 0 at r (in_catalog first s d) ≡ and_in_catalog first s (applied (insert_outcome s at r) d)
  pub replace : (e : ℕ) (r : List Value) → replace_step 0 e r (in_catalog first s d) ≡ and_in_catalog first s (applied (replace_outcome s e r) d)
  pub modify : (e : ℕ) (edits : List Edit) (rollback : Bool)
      → modify_step 0 e edits rollback (in_catalog first s d) ≡ and_in_catalog first s (applied (modify_outcome s e edits rollback) d)
  pub erase : (e : ℕ) → erase_step 0 e (in_catalog first s d) ≡ and_in_catalog first s (applied (erase_outcome e) d)
  pub erase_key : (x : ℕ) (key : List Value) → erase_key_step 0 x key (in_catalog first s d) ≡ and_in_catalog first s (applied (erase_key_outcome s x key) d)
  pub relocate : (x e : ℕ) (b : Option ℕ) → relocate_step 0 x e b (in_catalog first s d) ≡ and_in_catalog first s (applied (relocate_outcome x e b) d)
  pub start : start_step (in_catalog first s d) ≡ and_in_catalog first s (start d)
  pub undo : undo_step (in_catalog first s d) ≡ and_in_catalog first s (undo_to d d.old)
  pub squash : squash_step (in_catalog first s d) ≡ and_in_catalog first s (squash_to d d.old)
  pub commit : (x : ℕ) → commit_step x (in_catalog first s d) ≡ and_in_catalog first s (commit x d)
  pub undo_all : undo_all_step (in_catalog first s d) ≡ and_in_catalog first s (undo_all d)

-- a catalog of one table is as that table by itself
abbrev pub OneTableAsBefore : Type 0
OneTableAsBefore = (first : ℕ) (s : Shape) (d : OneTable) → IsAsOneTable first s d
