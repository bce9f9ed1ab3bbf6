-- A database that is restored from tables, without open sessions.
--     restored_database      the database of a catalog with these tables
--     AllRowsFit      each row fits the columns of its table
--     AreRestored      what the containers of the first tables are
--     IsDatabaseFault      why no database is restored
use Rattle.std.specs.Prelude.{◌≡◌, ◌≢◌, ℕ, ◌<◌, List, [], length, map, take, slice_get}
use Rattle.std.specs.declared.option.Option.{Option}
use Rattle.std.specs.declared.option.Option.TheVariants.{Some}
use Rattle.mi_value.specs.declared.limits.TheConstants.{LAST_COUNT}
use Rattle.mi_catalog.specs.Shape.{Shape, CatalogShape, schema_at}
use Rattle.mi_model.specs.Database.{Database, schema_of, table_of}
use Rattle.mi_container.specs.Data.{Data, as_table, IsData}
use Rattle.mi_container.specs.Secrets.{opened_secrets}
use Rattle.mi_container.specs.declared.restore.TableImage.{TableImage}
use Rattle.mi_container.specs.Restore.{image_table, RowsFit, IsRestoreFault}
use Rattle.mi_database.specs.Journal.{data_at, tables_of}
use Rattle.mi_database.specs.declared.restored.DatabaseFault.{DatabaseFault}
use Rattle.mi_database.specs.declared.restored.DatabaseFault.TheVariants as fault

-- the tables that the images are, and no open session
abbrev pub restored_database : CatalogShape → List TableImage → ℕ → Database
restored_database c images revision = record { catalog = c; tables = map image_table images; old = []; revision = revision }

-- each row fits the columns of its table
abbrev pub AllRowsFit : Database → Type 0
AllRowsFit d = (n : ℕ) → n < length d.tables → RowsFit (schema_of d n) (table_of d n).rows

-- containers of these schemas, data and secrets are those of the first tables of a catalog, which images are
pub record AreRestored (c : CatalogShape) (secret : ℕ) (images : List TableImage) (ss : List Shape) (ds : List Data) (hs : List (List (Option ℕ))) : Type 0 where
  pub shapes : ss ≡ take (length images) c.tables
  pub tables : tables_of ds ≡ map image_table images
  pub each : (n : ℕ) → n < length ds → IsData (schema_at c n) (data_at ds n)
  pub fit : (n : ℕ) → n < length ds → RowsFit (schema_at c n) (as_table (data_at ds n)).rows
  pub kept : (n : ℕ) → (data_at ds n).kept ≡ []
  pub secrets : hs ≡ map (opened_secrets secret) (take (length images) c.tables)

-- why no database is restored; memory aside each is a fact of the tables or of the revision
abbrev pub IsDatabaseFault : CatalogShape → List TableImage → ℕ → DatabaseFault → Type 0
IsDatabaseFault c images revision fault.Tables = length images ≢ length c.tables
IsDatabaseFault c images revision fault.Revision = LAST_COUNT < revision
IsDatabaseFault c images revision (fault.Table n e) =
    (n < length c.tables) × ((i : TableImage) × (slice_get images n ≡ Some i) × IsRestoreFault (schema_at c n) (image_table i) e)
