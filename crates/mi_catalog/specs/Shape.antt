-- What contracts see of a schema and of a catalog.
use Rattle.std.specs.Prelude.{ℕ, false, List, [], slice_index_or, bytes_eq}
use Rattle.std.specs.List.{position}
use Rattle.std.specs.declared.option.Option.{Option}
use Rattle.mi_catalog.specs.declared.index.Column.{Column}
use Rattle.mi_catalog.specs.declared.index.Index.{Index}
use Rattle.mi_catalog.specs.declared.index.IndexKind.TheVariants.{Hashed}

-- a schema; its index 0 is `id`, ranked and unique, and has no parts
pub record Shape : Type 0 where
  pub table_name : List ℕ
  pub columns : List Column
  pub indexes : List Index
  pub first_id : ℕ
  pub first_arrival : ℕ
  pub first_revision : ℕ
  pub max_rows : ℕ

-- a catalog: the tables by number, and the revision that the database opens with
pub record CatalogShape : Type 0 where
  pub tables : List Shape
  pub first_revision : ℕ

-- the schema of a table's number
abbrev pub schema_at : CatalogShape → ℕ → Shape
schema_at c n = slice_index_or c.tables n
    (record { table_name = []; columns = []; indexes = []; first_id = 0; first_arrival = 0; first_revision = 0; max_rows = 0 })

-- the number of the first column, index or table of a name
abbrev pub find_column : Shape → List ℕ → Option ℕ
find_column s name = position (λ c. bytes_eq c.name name) s.columns

abbrev pub find_index : Shape → List ℕ → Option ℕ
find_index s name = position (λ i. bytes_eq i.name name) s.indexes

abbrev pub find_table : CatalogShape → List ℕ → Option ℕ
find_table c name = position (λ s. bytes_eq s.table_name name) c.tables

-- the index of a number; beyond the last none is sequenced, ordered or ranked
abbrev pub index_at : Shape → ℕ → Index
index_at s x = slice_index_or s.indexes x (record { name = []; kind = Hashed; «unique» = false; parts = [] })
