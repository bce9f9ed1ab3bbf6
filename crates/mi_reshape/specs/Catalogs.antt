-- The tables of a catalog under another catalog: they go by their names.
--     table_under, tables_under      a table, and all
--     TablesFit, TablesHold      what holds of all tables
--     other_column, IsCatalogFault      columns of another type, and why the tables aren't reshaped
--     lost_column, lost_columns, lost_of, lost      what is dropped
use Rattle.std.specs.Prelude.{◌≡◌, ℕ, ◌<◌, List, [], ◌∷◌, map, length, cond, slice_index_or, option_and_then}
use Rattle.std.specs.Option.{option_map_or, is_some}
use Rattle.std.specs.List.{flat_map, range_with_len}
use Rattle.std.specs.declared.option.Option.{Option}
use Rattle.std.specs.declared.option.Option.TheVariants.{None, Some}
use Rattle.mi_catalog.specs.Shape.{Shape, CatalogShape, schema_at, find_column, find_table}
use Rattle.mi_model.specs.Table.{Table, opened, IsTable}
use Rattle.mi_reshape.specs.declared.fault.CatalogFault.{CatalogFault}
use Rattle.mi_reshape.specs.declared.fault.CatalogFault.TheVariants as fault
use Rattle.mi_reshape.specs.declared.lost.DroppedPart.{DroppedPart}
use Rattle.mi_reshape.specs.Reshaped.{other_type, column_at, reshaped_table, RowsFit}

-- the table of a new schema: the old one of its name, reshaped, or if there is none as the schema opens
abbrev pub table_under : CatalogShape → List Table → Shape → Table
table_under from tables s =
    option_map_or (λ x. reshaped_table (schema_at from x) s (slice_index_or tables x (opened s))) (find_table from s.table_name) (opened s)

-- all of them, in the order of the new catalog
abbrev pub tables_under : CatalogShape → CatalogShape → List Table → List Table
tables_under from to tables = map (table_under from tables) to.tables

-- the first column of a new schema that has another type in the old table of its name
abbrev pub other_column : CatalogShape → Shape → Option ℕ
other_column from s = option_and_then (λ x. other_type (schema_at from x) s) (find_table from s.table_name)

-- the rows of each table fit its schema
abbrev pub TablesFit : CatalogShape → List Table → Type 0
TablesFit c tables = (x : ℕ) → x < length c.tables → RowsFit (schema_at c x) (slice_index_or tables x (opened (schema_at c x))).rows

-- each is a table of its schema
abbrev pub TablesHold : CatalogShape → List Table → Type 0
TablesHold c tables = (x : ℕ) → x < length c.tables → IsTable (schema_at c x) (slice_index_or tables x (opened (schema_at c x)))

-- why the tables aren't reshaped
abbrev pub IsCatalogFault : CatalogShape → CatalogShape → CatalogFault → Type 0
IsCatalogFault from to (fault.Column t c) = (t < length to.tables) × (other_column from (schema_at to t) ≡ Some c)
IsCatalogFault from to fault.Memory = Unit {0}

-- a column of an old schema, if the new one hasn't its name
abbrev pub lost_column : ℕ → Shape → Shape → ℕ → List DroppedPart
lost_column t from to x = cond (is_some (find_column to (column_at from x).name)) [] (record { table = t; column = Some x } ∷ [])

abbrev pub lost_columns : ℕ → Shape → Shape → List DroppedPart
lost_columns t from to = flat_map (lost_column t from to) (range_with_len 0 (length from.columns))

-- of an old table, its columns that are dropped, or all of it
abbrev pub lost_of : CatalogShape → CatalogShape → ℕ → List DroppedPart
lost_of from to t =
    option_map_or (λ y. lost_columns t (schema_at from t) (schema_at to y)) (find_table to (schema_at from t).table_name)
    (record { table = t; column = None } ∷ [])

-- what is dropped, by rising tables and columns
abbrev pub lost : CatalogShape → CatalogShape → List DroppedPart
lost from to = flat_map (lost_of from to) (range_with_len 0 (length from.tables))
