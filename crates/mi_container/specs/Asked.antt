-- What fits a container of a schema: indexes of a kind, records, edits and keys. At a table's schema these are the words of
-- catalogs, `Rattle.mi_catalog.specs.Fitting`.
use Rattle.std.specs.Prelude.{◌≡◌, ℕ, ◌<◌, true, false, IsTrue, List, length}
use Rattle.std.specs.List.{list_all}
use Rattle.mi_value.specs.Edits.{NamesEachOnce}
use Rattle.mi_value.specs.declared.value.Value.{Value}
use Rattle.mi_value.specs.declared.edit.Edit.{Edit}
use Rattle.mi_catalog.specs.declared.index.IndexKind.TheVariants.{Hashed, Sequenced}
use Rattle.mi_catalog.specs.Kinds.{has_keys, is_sorted, is_hashed, shows_one_list}
use Rattle.mi_catalog.specs.Shape.{Shape, index_at}
use Rattle.mi_catalog.specs.Fits.{fits_record, fits_edit, fits_key}

-- index i is there and has keys
abbrev pub IsKeyed : Shape → ℕ → Type 0
IsKeyed s i = (i < length s.indexes) × IsTrue (has_keys (index_at s i).kind)

-- it is there and hashed
abbrev pub IsHashed : Shape → ℕ → Type 0
IsHashed s i = (i < length s.indexes) × ((index_at s i).kind ≡ Hashed)

-- it is ordered or ranked; beyond the last index none is
abbrev pub IsSorted : Shape → ℕ → Type 0
IsSorted s i = IsTrue (is_sorted (index_at s i).kind)

-- it is sequenced
abbrev pub IsSequenced : Shape → ℕ → Type 0
IsSequenced s i = (index_at s i).kind ≡ Sequenced

-- it is any but a hashed one, and so shows one list
abbrev pub ShowsOneList : Shape → ℕ → Type 0
ShowsOneList s i = IsTrue (shows_one_list (index_at s i).kind)

abbrev pub RecordFits : Shape → List Value → Type 0
RecordFits s row = IsTrue (fits_record s.columns row)

-- each edit is of a column of its type, and no column is named twice
abbrev pub EditsFit : Shape → List Edit → Type 0
EditsFit s edits = IsTrue (list_all (fits_edit s.columns) edits) × NamesEachOnce edits

-- values are a whole key of index i
abbrev pub WholeKey : Shape → ℕ → List Value → Type 0
WholeKey s i key = IsTrue (fits_key s.columns (index_at s i).parts true key)

-- they are a key of it, or the first values of one
abbrev pub KeyPrefix : Shape → ℕ → List Value → Type 0
KeyPrefix s i key = IsTrue (fits_key s.columns (index_at s i).parts false key)

-- they are what it is asked by: whole keys if it is hashed, and else also the first values of one
abbrev pub LookUpKey : Shape → ℕ → List Value → Type 0
LookUpKey s i key = IsTrue (fits_key s.columns (index_at s i).parts (is_hashed (index_at s i).kind) key)
