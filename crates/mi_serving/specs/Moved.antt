-- A journal's tables under another schema: of shop.journal, with --rebase-to new.journal --new-schema new.toml.
--     part_name      how a column or an index of a table is called
--     failure_of_table      what is said of a table that breaks a rule of its new schema
--     Tells, TellsType, TellsIndex      what a fault is told to be about
--     IsRestoreRefusal, IsRefusal      why tables aren't put under another catalog
--     moved_database, IsUnder      the tables under another catalog
--     IsSettled      the old journal was asked to its end
--     HasMoved      a new journal began with them
use Rattle.std.specs.Prelude.{◌≡◌, ◌⊎◌, ◌<◌, ℕ, List, [], ◌∷◌, ◌++◌, length, slice_get, Option, Some, None, option_map}
use Rattle.std.specs.List.{AllByRecursion}
use Rattle.std.specs.String.{string_bytes}
use Rattle.mi_catalog.specs.Shape.{Shape, CatalogShape, index_at, schema_at}
use Rattle.mi_model.specs.Database.{Database, depth}
use Rattle.mi_model.specs.Table.{Table}
use Rattle.mi_commands.specs.Holder.{HeldDatabase}
use Rattle.mi_container.specs.declared.restore.RestoreFault.{RestoreFault}
use Rattle.mi_container.specs.declared.restore.RestoreFault.TheVariants as fault
use Rattle.mi_container.specs.Restore.{IsRestoreFault}
use Rattle.mi_hub.specs.Run.{HubState}
use Rattle.mi_recovery.specs.declared.asking.Asked.{Asked}
use Rattle.mi_recovery.specs.declared.place.JournalSchema.{JournalSchema}
use Rattle.mi_recovery.specs.declared.place.Position.{Position}
use Rattle.mi_recovery.specs.Segments.{IsAskedBehind}
use Rattle.mi_rebase.specs.Rebase.{IsBegun}
use Rattle.mi_reshape.specs.Catalogs.{tables_under, other_column}
use Rattle.mi_reshape.specs.Reshaped.{column_at}
use Rattle.mi_serving.specs.declared.failure.Failure.{Failure}
use Rattle.mi_serving.specs.declared.failure.Failure.TheVariants as failure
use Rattle.mi_serving.specs.declared.failure.Fault.{Fault}
use Rattle.mi_serving.specs.declared.words.JournalWords.{JournalWords}
use Rattle.mi_serving.specs.Served.{IsSchemaOf, StandsAt}

-- of the table accounts the column balance: accounts.balance
abbrev pub part_name : List ℕ → List ℕ → List ℕ
part_name table part = table ++ 46 ∷ part

-- what is said of a table that breaks a rule of its new schema
abbrev pub failure_of_table : RestoreFault → Failure
failure_of_table fault.Full = failure.MovedFull
failure_of_table fault.Counters = failure.MovedTable
failure_of_table fault.Lists = failure.MovedTable
failure_of_table (fault.Id id) = failure.MovedTable
failure_of_table (fault.Row id) = failure.MovedTable
failure_of_table (fault.List index) = failure.MovedTable
failure_of_table (fault.Unique index first second) = failure.MovedUnique first second
failure_of_table fault.Memory = failure.Memory

abbrev pub Tells : Fault → List ℕ → Type 0
Tells f name = option_map string_bytes f.place ≡ Some name

-- a column of the new catalog has another type in the old one, and is the first of its table: it is told by its name
pub record TellsType (from to : CatalogShape) (f : Fault) : Type 0 where
  pub table : ℕ
  pub column : ℕ
  pub within : table < length to.tables
  pub other : other_column from (schema_at to table) ≡ Some column
  pub told : Tells f (part_name (schema_at to table).table_name (column_at (schema_at to table) column).name)

-- where two rows have one key in an index, that is told by its name, if memory is there
abbrev pub TellsIndex : Shape → RestoreFault → Fault → Type 0
TellsIndex s e f = (x a b : ℕ) → e ≡ fault.Unique x a b → (f.failure ≡ failure.Memory) ⊎ Tells f (part_name s.table_name (index_at s x).name)

-- one of these tables isn't one of its schema, and the failure says why
pub record IsTableRefusal (to : CatalogShape) (tables : List Table) (f : Fault) : Type 0 where
  pub number : ℕ
  pub table : Table
  pub why : RestoreFault
  pub is : slice_get tables number ≡ Some table
  pub breaks : IsRestoreFault (schema_at to number) table why
  pub says : f.failure ≡ failure_of_table why
  pub told : TellsIndex (schema_at to number) why f

-- Why no database is restored from tables under a catalog. `MovedTable` is said of a count of tables or a revision that is wrong, too.
abbrev pub IsRestoreRefusal : CatalogShape → List Table → Fault → Type 0
IsRestoreRefusal to tables f = (f.failure ≡ failure.Memory) ⊎ ((f.failure ≡ failure.MovedTable) ⊎ IsTableRefusal to tables f)

-- why a database's tables aren't put under another catalog
abbrev pub IsRefusal : Database → CatalogShape → Fault → Type 0
IsRefusal d to f =
    ((f.failure ≡ failure.MovedType) × TellsType d.catalog to f) ⊎ IsRestoreRefusal to (tables_under d.catalog to d.tables) f

-- a database's tables under another catalog, at its revision, without an open session
abbrev pub moved_database : Database → CatalogShape → Database
moved_database d to = record { catalog = to; tables = tables_under d.catalog to d.tables; old = []; revision = d.revision }

-- new has the tables of d under another catalog, in which no column has another type
pub record IsUnder (d : Database) (to : CatalogShape) (new : Database) : Type 0 where
  pub types : AllByRecursion (λ s. other_column d.catalog s ≡ None) to.tables
  pub is : new ≡ moved_database d to

-- The journal of a catalog that the words name was asked to its end, from what its base has, or from empty tables, on. No session is open there.
pub record IsSettled {F : Type 0} (is_locked : F → Type 0) (is_seen : List ℕ → F → Type 0) (is_newest : List ℕ → ℕ → Type 0)
    (contents : F → Option (List ℕ)) (from : CatalogShape) (words : JournalWords) (schema : JournalSchema) (asked : Asked F) (end : HeldDatabase)
    : Type 0 where
  pub position : Option Position
  pub old : HubState
  pub stands : StandsAt is_seen contents from (string_bytes schema.hash) (Some (string_bytes words.file)) position old
  pub behind : IsAskedBehind is_locked is_seen (is_newest (string_bytes words.file)) contents (string_bytes words.file) schema position old.held asked end
  pub none : depth end.database ≡ 0

-- The journal of a catalog that the words name was asked to its end. A journal of another catalog began at a path, with the tables of the old one under
-- that.
pub record HasMoved {F : Type 0} (is_locked : F → Type 0) (is_seen : List ℕ → F → Type 0) (is_newest : List ℕ → ℕ → Type 0)
    (contents stays : F → Option (List ℕ)) (from to : CatalogShape) (words : JournalWords) (path : List ℕ) : Type 0 where
  pub schema : JournalSchema
  pub asked : Asked F
  pub end : HeldDatabase
  pub new : Database
  pub new_schema : JournalSchema
  pub of_catalog : IsSchemaOf from schema
  pub settled : IsSettled is_locked is_seen is_newest contents from words schema asked end
  pub under : IsUnder end.database to new
  pub of_new : IsSchemaOf to new_schema
  pub begun : IsBegun is_locked is_seen (is_newest path) contents stays path new_schema new
