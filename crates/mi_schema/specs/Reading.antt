-- What a text is read as: a schema or a catalog, or the fault of the first check that fails.
use Rattle.std.specs.Prelude.{◌≡◌, ◌⊎◌, ℕ, List, [], ◌∷◌, map, true, if◌then◌else◌, Option, Some, None, unwrap_or, Result, Ok, Err, codes, unsigned_abs}
use Rattle.std.specs.Str.{is_utf8}
use Rattle.toml.specs.Data.{Members}
use Rattle.toml.specs.Parse.{parse_document}
use Rattle.mi_value.specs.declared.compare.KeyPart.{KeyPart}
use Rattle.mi_value.specs.declared.value.ColumnType.TheVariants as column
use Rattle.mi_schema.specs.declared.draft.DraftColumn.{DraftColumn}
use Rattle.mi_schema.specs.declared.draft.DraftIndex.{DraftIndex}
use Rattle.mi_schema.specs.declared.document.Misread.{Misread}
use Rattle.mi_schema.specs.declared.document.Misread.TheVariants as misread
use Rattle.mi_schema.specs.declared.fault.SchemaFault.{SchemaFault}
use Rattle.mi_schema.specs.declared.fault.SchemaFault.TheVariants.{Toml, Shape as OtherShape, Memory}
use Rattle.mi_catalog.specs.declared.index.Column.{Column}
use Rattle.mi_catalog.specs.declared.index.Index.{Index}
use Rattle.mi_catalog.specs.declared.index.IndexKind.TheVariants.{Ranked}
use Rattle.mi_catalog.specs.Shape.{Shape, CatalogShape, schema_at}
use Rattle.mi_schema.specs.Draft.{TableDraft, CatalogDraft}
use Rattle.mi_schema.specs.Members.{schema_draft, catalog_draft}
use Rattle.mi_schema.specs.Checks.{type_named, kind_or_sequenced, descends, key_entries, entry_column, fault_of}

-- The answer is what the definition gives, or in its place a fault for memory.
abbrev pub IsSchemaAnswer : {A : Type 0} → Result A SchemaFault → Result A SchemaFault → Type 0
IsSchemaAnswer (Ok x) defined = defined ≡ Ok x
IsSchemaAnswer (Err e) defined = (e ≡ Memory) ⊎ (defined ≡ Err e)

-- the fault of a draft that isn't read
abbrev pub misread_fault : Misread → SchemaFault
misread_fault misread.Shape = OtherShape
misread_fault misread.Memory = Memory

-- a column, of a word that the checks let through
abbrev pub column_from : DraftColumn → Column
column_from c = record { name = c.name; kind = unwrap_or (type_named c.kind) column.Int }

-- the part that an entry of a key is, and those of an index
abbrev pub part_from : List DraftColumn → List ℕ → KeyPart
part_from cs entry = record { column = entry_column cs entry; descending = descends entry }

abbrev pub parts_from : List DraftColumn → DraftIndex → List KeyPart
parts_from cs i = map (part_from cs) (key_entries i)

abbrev pub index_from : List DraftColumn → DraftIndex → Index
index_from cs i = record { name = i.name; kind = kind_or_sequenced i.kind; «unique» = i.«unique»; parts = parts_from cs i }

-- the index `id`, which stands before the declared ones
abbrev pub id_index : Index
id_index = record { name = codes "id"; kind = Ranked; «unique» = true; parts = [] }

-- a table of a database that opens with this revision
abbrev pub shape_from : ℕ → TableDraft → Shape
shape_from revision t = record {
  table_name = t.name;
  columns = map column_from t.columns;
  indexes = id_index ∷ map (index_from t.columns) t.indexes;
  first_id = unsigned_abs t.first_id;
  first_arrival = unsigned_abs t.first_arrival;
  first_revision = revision;
  max_rows = unsigned_abs t.max_rows;
}

abbrev pub catalog_from : CatalogDraft → CatalogShape
catalog_from d = record { tables = map (shape_from (unsigned_abs d.first_revision)) d.tables; first_revision = unsigned_abs d.first_revision }

-- a draft that no check refuses
abbrev pub checked : CatalogDraft → Option SchemaFault → Result CatalogShape SchemaFault
checked d None = Ok (catalog_from d)
checked d (Some e) = Err e

abbrev pub of_draft : Option CatalogDraft → Result CatalogShape SchemaFault
of_draft None = Err OtherShape
of_draft (Some d) = checked d (fault_of d)

abbrev pub of_document : (Members → Option CatalogDraft) → Option Members → Result CatalogShape SchemaFault
of_document draft None = Err Toml
of_document draft (Some ms) = of_draft (draft ms)

-- the document that bytes are
abbrev pub document : List ℕ → Option Members
document bytes = if is_utf8 bytes then parse_document bytes else None

abbrev pub catalog_read : List ℕ → Result CatalogShape SchemaFault
catalog_read bytes = of_document catalog_draft (document bytes)

-- a schema is the one table of its document
abbrev pub first_table : Result CatalogShape SchemaFault → Result Shape SchemaFault
first_table (Ok c) = Ok (schema_at c 0)
first_table (Err e) = Err e

abbrev pub schema_read : List ℕ → Result Shape SchemaFault
schema_read bytes = first_table (of_document schema_draft (document bytes))
