-- What every run keeps: databases are well formed, and no unique index has two rows of one key.
use Rattle.std.specs.Prelude.{◌≡◌, ◌≢◌, ℕ, ◌<◌, true, false, List}
use Rattle.std.specs.List.{AllZip, AllByRecursion}
use Rattle.std.specs.Ordering.{is_eq}
use Rattle.mi_catalog.specs.Shape.{Shape, CatalogShape, index_at}
use Rattle.mi_model.specs.Table.{Table, has}
use Rattle.mi_model.specs.View.{compare_ids}
use Rattle.mi_model.specs.Database.{Database, IsDatabase, opened_database}
use Rattle.mi_model.specs.Run.{Command, run}

-- in each unique index two rows that are there have different keys; index 0 is `id`, by which two rows always differ
abbrev pub HasUniqueKeys : Shape → Table → Type 0
HasUniqueKeys s t = (x a b : ℕ) → 0 < x → (index_at s x).«unique» ≡ true → has t a ≡ true → has t b ≡ true → a ≢ b
    → is_eq (compare_ids (index_at s x) t a b) ≡ false

-- so in each table, and in each at the start of an open session
pub record UniqueEverywhere (d : Database) : Type 0 where
  pub tables : AllZip HasUniqueKeys d.catalog.tables d.tables
  pub old : AllByRecursion (AllZip HasUniqueKeys d.catalog.tables) d.old

-- after any commands from an opened database
abbrev pub UniqueKeysStayUnique : Type 0
UniqueKeysStayUnique = (c : CatalogShape) (cs : List Command) → UniqueEverywhere (run cs (opened_database c))

abbrev pub TablesStayWellFormed : Type 0
TablesStayWellFormed = (c : CatalogShape) (cs : List Command) → IsDatabase (run cs (opened_database c))
