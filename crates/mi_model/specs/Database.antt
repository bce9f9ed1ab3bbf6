-- Several tables under one stack of sessions.
use Rattle.std.specs.Prelude.{ℕ, zero, suc, ◌+◌, ◌-◌, ◌≤◌, min, ◌==◌, if◌then◌else◌, List, [], ◌∷◌, map, take, length, slice_index_or, slice_set}
use Rattle.std.specs.List.{AllZip, AllByRecursion}
use Rattle.std.specs.declared.result.Result.{Result}
use Rattle.std.specs.declared.result.Result.TheVariants.{Ok, Err}
use Rattle.mi_value.specs.declared.refusal.Refusal.{Refusal}
use Rattle.mi_value.specs.declared.refusal.Refusal.TheVariants.{Spent, Depth}
use Rattle.mi_value.specs.declared.refusal.NoSession.{NoSession}
use Rattle.mi_value.specs.declared.limits.TheConstants.{MAX_SESSIONS}
use Rattle.mi_catalog.specs.Shape.{Shape, CatalogShape, schema_at}
use Rattle.mi_model.specs.Table.{Table, IsTable, opened}
use Rattle.mi_model.specs.Verdict.{Outcome, is_spent}

-- the catalog, the tables by number, those at the start of each open session with the newest first, and the revision
pub record Database : Type 0 where
  pub catalog : CatalogShape
  pub tables : List Table
  pub old : List (List Table)
  pub revision : ℕ

-- what holds of every database
pub record IsDatabase (d : Database) : Type 0 where
  pub tables : AllZip IsTable d.catalog.tables d.tables
  pub old : AllByRecursion (AllZip IsTable d.catalog.tables) d.old
  pub numbered : length d.old ≤ d.revision

-- what a command answers, and the database that it leaves
abbrev pub Step : Type 0 → Type 0
Step A = Result A Refusal × Database

abbrev pub opened_database : CatalogShape → Database
opened_database c = record { catalog = c; tables = map opened c.tables; old = []; revision = c.first_revision }

abbrev pub schema_of : Database → ℕ → Shape
schema_of d n = schema_at d.catalog n

abbrev pub table_of : Database → ℕ → Table
table_of d n = slice_index_or d.tables n (record { rows = []; lists = []; next = 0; arrivals = 0 })

-- a table in the place of the one with that number; the others and the old ones stay
abbrev pub with_table : ℕ → Table → Database → Database
with_table n t d = record d { tables = slice_set d.tables n t }

-- what a change of one table answers and leaves
abbrev pub on_table : {A : Type 0} → ℕ → (Shape → Table → Outcome A) → Database → Step A
on_table n change d = let o = change (schema_of d n) (table_of d n) in (o.0, with_table n o.1 d)

-- how many sessions are open
abbrev pub depth : Database → ℕ
depth d = length d.old

abbrev pub started : Database → Database
started d = record d { old = d.tables ∷ d.old; revision = d.revision + 1 }

abbrev pub undone_to : Database → List (List Table) → Database
undone_to d [] = d
undone_to d (tables ∷ old) = record d { tables = tables; old = old; revision = d.revision - 1 }

-- the tables of the newest start are current again
abbrev pub undone : Database → Database
undone d = undone_to d d.old

abbrev pub undone_times : ℕ → Database → Database
undone_times zero d = d
undone_times (suc k) d = undone_times k (undone d)

abbrev pub squashed_to : Database → List (List Table) → Database
squashed_to d [] = d
squashed_to d (tables ∷ old) = record d { old = old; revision = d.revision - 1 }

-- the newest session is joined into the one below
abbrev pub squashed : Database → Database
squashed d = squashed_to d d.old

-- how many sessions have a number of at most x: the oldest has the number revision - depth + 1
abbrev pub ending : ℕ → Database → ℕ
ending x d = min (depth d) (x + depth d - d.revision)

-- these sessions end, and their changes stay
abbrev pub committed : ℕ → Database → Database
committed x d = record d { old = take (depth d - ending x d) d.old }

-- what the session steps answer and leave
abbrev pub start_step : Database → Step ℕ
start_step d =
    if is_spent d.revision then (Err Spent, d)
    else if depth d == MAX_SESSIONS then (Err Depth, d)
    else (Ok (d.revision + 1), started d)

abbrev pub undo_step : Database → Result ℕ NoSession × Database
undo_step d = if depth d == 0 then (Err (record {}), d) else (Ok (d.revision - 1), undone d)

abbrev pub squash_step : Database → Result ℕ NoSession × Database
squash_step d = if depth d == 0 then (Err (record {}), d) else (Ok (d.revision - 1), squashed d)

abbrev pub commit_step : ℕ → Database → Step ℕ
commit_step x d = (Ok (ending x d), committed x d)

abbrev pub undo_all_step : Database → Step ℕ
undo_all_step d = (Ok (depth d), undone_times (depth d) d)
