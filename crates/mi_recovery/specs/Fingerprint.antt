-- What tells one schema from another in a journal's header: the SHA-256 of a text that has a line for each part of its meaning.
use Rattle.std.specs.Prelude.{ℕ, List, [], ◌∷◌, ◌++◌, length, if◌then◌else◌, codes, decimal}
use Rattle.sha2.specs.Sha256.{sha256}
use Rattle.hex.specs.Hex.{encode_lower}
use Rattle.mi_value.specs.declared.value.ColumnType.{ColumnType}
use Rattle.mi_value.specs.declared.value.ColumnType.TheVariants as column
use Rattle.mi_value.specs.declared.compare.KeyPart.{KeyPart}
use Rattle.mi_catalog.specs.declared.index.Column.{Column}
use Rattle.mi_catalog.specs.declared.index.Index.{Index}
use Rattle.mi_catalog.specs.declared.index.IndexKind.{IndexKind}
use Rattle.mi_catalog.specs.declared.index.IndexKind.TheVariants.{Ordered, Ranked, Hashed, Sequenced}
use Rattle.mi_catalog.specs.Shape.{Shape, CatalogShape}
use Rattle.mi_log.specs.Header.{header_of}

-- a name, which has no newline, and a number
abbrev pub name_line : List ℕ → List ℕ
name_line name = name ++ 10 ∷ []

abbrev pub number_line : ℕ → List ℕ
number_line n = decimal n ++ 10 ∷ []

-- the lines of each of a list's items, one behind another
abbrev pub lines_of_all : {A : Type 0} → (A → List ℕ) → List A → List ℕ
lines_of_all f [] = []
lines_of_all f (x ∷ xs) = f x ++ lines_of_all f xs

abbrev pub type_word : ColumnType → List ℕ
type_word column.Int = codes "int"
type_word column.Text = codes "text"
type_word column.Flag = codes "flag"

abbrev pub kind_word : IndexKind → List ℕ
kind_word Ordered = codes "ordered"
kind_word Ranked = codes "ranked"
kind_word Hashed = codes "hashed"
kind_word Sequenced = codes "sequenced"

abbrev pub part_text : KeyPart → List ℕ
part_text p = number_line p.column ++ name_line (if p.descending then codes "down" else codes "up")

abbrev pub index_text : Index → List ℕ
index_text i = name_line i.name ++ (name_line (kind_word i.kind) ++ (name_line (if i.«unique» then codes "unique" else codes "many")
    ++ (number_line (length i.parts) ++ lines_of_all part_text i.parts)))

abbrev pub column_text : Column → List ℕ
column_text c = name_line c.name ++ name_line (type_word c.kind)

abbrev pub numbers_text : Shape → List ℕ
numbers_text s = name_line s.table_name ++ (number_line s.first_id ++ (number_line s.first_arrival ++ number_line s.max_rows))

abbrev pub schema_text : Shape → List ℕ
schema_text s = numbers_text s ++ (number_line (length s.columns) ++ (lines_of_all column_text s.columns
    ++ (number_line (length s.indexes) ++ lines_of_all index_text s.indexes)))

abbrev pub catalog_text : CatalogShape → List ℕ
catalog_text c = number_line c.first_revision ++ lines_of_all schema_text c.tables

-- 64 hexadecimal digits
abbrev pub schema_hash : CatalogShape → List ℕ
schema_hash c = encode_lower (sha256 (catalog_text c))

-- the header of a catalog's journal, without its newline
abbrev pub journal_header : CatalogShape → List ℕ
journal_header c = header_of c.first_revision (schema_hash c)
