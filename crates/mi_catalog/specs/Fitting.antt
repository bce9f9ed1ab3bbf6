-- What fits the tables of a catalog, by their numbers: indexes of a kind, records, edits, keys and bounds. The conditions of
-- databases, of queries and of commands are said in these words.
use Rattle.std.specs.Prelude.{◌≡◌, ℕ, ◌<◌, true, false, IsTrue, List, length}
use Rattle.std.specs.List.{list_all}
use Rattle.mi_value.specs.Edits.{NamesEachOnce}
use Rattle.mi_value.specs.declared.value.Value.{Value}
use Rattle.mi_value.specs.declared.edit.Edit.{Edit}
use Rattle.mi_value.specs.declared.bound.Lower.{Lower}
use Rattle.mi_value.specs.declared.bound.Upper.{Upper}
use Rattle.mi_catalog.specs.declared.index.Index.{Index}
use Rattle.mi_catalog.specs.declared.index.IndexKind.TheVariants.{Ranked, Hashed, Sequenced}
use Rattle.mi_catalog.specs.Kinds.{has_keys, is_sorted, is_hashed, shows_one_list}
use Rattle.mi_catalog.specs.Shape.{CatalogShape, schema_at, index_at}
use Rattle.mi_catalog.specs.Fits.{fits_record, fits_edit, fits_key, fits_lower, fits_upper}

-- table n is there
abbrev pub HasTable : CatalogShape → ℕ → Type 0
HasTable c n = n < length c.tables

-- table n has index i
abbrev pub HasIndex : CatalogShape → ℕ → ℕ → Type 0
HasIndex c n i = i < length (schema_at c n).indexes

-- index i of table n
abbrev pub index_of : CatalogShape → ℕ → ℕ → Index
index_of c n i = index_at (schema_at c n) i

-- index i of table n is there and has keys
abbrev pub IsKeyedIndex : CatalogShape → ℕ → ℕ → Type 0
IsKeyedIndex c n i = HasIndex c n i × IsTrue (has_keys (index_of c n i).kind)

-- it is hashed
abbrev pub IsHashedIndex : CatalogShape → ℕ → ℕ → Type 0
IsHashedIndex c n i = HasIndex c n i × ((index_of c n i).kind ≡ Hashed)

-- it is ordered or ranked; beyond the last index none is
abbrev pub IsSortedIndex : CatalogShape → ℕ → ℕ → Type 0
IsSortedIndex c n i = IsTrue (is_sorted (index_of c n i).kind)

-- it is ranked
abbrev pub IsRankedIndex : CatalogShape → ℕ → ℕ → Type 0
IsRankedIndex c n i = (index_of c n i).kind ≡ Ranked

-- it is sequenced
abbrev pub IsSequencedIndex : CatalogShape → ℕ → ℕ → Type 0
IsSequencedIndex c n i = (index_of c n i).kind ≡ Sequenced

-- it is any but a hashed one, and so shows one list
abbrev pub IsListedIndex : CatalogShape → ℕ → ℕ → Type 0
IsListedIndex c n i = IsTrue (shows_one_list (index_of c n i).kind)

-- a record fits table n
abbrev pub FitsTable : CatalogShape → ℕ → List Value → Type 0
FitsTable c n row = IsTrue (fits_record (schema_at c n).columns row)

-- edits fit table n: each is of a column of its type, and no column is named twice
abbrev pub FitsEdits : CatalogShape → ℕ → List Edit → Type 0
FitsEdits c n edits = IsTrue (list_all (fits_edit (schema_at c n).columns) edits) × NamesEachOnce edits

-- values are a whole key of index i of table n
abbrev pub FitsWhole : CatalogShape → ℕ → ℕ → List Value → Type 0
FitsWhole c n i key = IsTrue (fits_key (schema_at c n).columns (index_of c n i).parts true key)

-- they are a key of it, or the first values of one
abbrev pub FitsPrefix : CatalogShape → ℕ → ℕ → List Value → Type 0
FitsPrefix c n i key = IsTrue (fits_key (schema_at c n).columns (index_of c n i).parts false key)

-- they are what it is asked by: whole keys if it is hashed, and else also the first values of one
abbrev pub FitsLookUp : CatalogShape → ℕ → ℕ → List Value → Type 0
FitsLookUp c n i key = IsTrue (fits_key (schema_at c n).columns (index_of c n i).parts (is_hashed (index_of c n i).kind) key)

-- a bound of a range in index i of table n
abbrev pub FitsLower : CatalogShape → ℕ → ℕ → Lower → Type 0
FitsLower c n i low = IsTrue (fits_lower (schema_at c n).columns (index_of c n i).parts low)

abbrev pub FitsUpper : CatalogShape → ℕ → ℕ → Upper → Type 0
FitsUpper c n i high = IsTrue (fits_upper (schema_at c n).columns (index_of c n i).parts high)
