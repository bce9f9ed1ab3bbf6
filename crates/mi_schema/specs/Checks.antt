-- What is checked of a draft, check by check in their order, each over all tables.
use Rattle.std.specs.Prelude.{ℕ, ℤ, pos, negsuc, Bool, true, false, not, ◌&&◌, ◌==◌, nat_le, nat_lt, bytes_eq}
use Rattle.std.specs.Prelude.{codes, List, [], ◌∷◌, length, map, if◌then◌else◌, Option, Some, None, unwrap_or}
use Rattle.std.specs.Option.{is_some, is_none}
use Rattle.std.specs.List.{list_all, list_any, position}
use Rattle.mi_value.specs.declared.value.ColumnType.{ColumnType}
use Rattle.mi_value.specs.declared.value.ColumnType.TheVariants as column
use Rattle.mi_value.specs.declared.limits.TheConstants.{MAX_COLUMNS, MAX_INDEXES, MAX_KEY_PARTS, MAX_TABLES, MAX_ROWS, LAST_COUNT}
use Rattle.mi_schema.specs.declared.draft.DraftColumn.{DraftColumn}
use Rattle.mi_schema.specs.declared.draft.DraftIndex.{DraftIndex}
use Rattle.mi_schema.specs.declared.fault.SchemaFault.{SchemaFault}
use Rattle.mi_schema.specs.declared.fault.SchemaFault.TheVariants.{Name, Twice, ColType, Kind, Key, Limit, Number}
use Rattle.mi_catalog.specs.declared.index.IndexKind.{IndexKind}
use Rattle.mi_catalog.specs.declared.index.IndexKind.TheVariants.{Ordered, Ranked, Hashed, Sequenced}
use Rattle.mi_schema.specs.Draft.{TableDraft, CatalogDraft}
use Rattle.mi_catalog.specs.Rules.{is_name, is_free_name, are_distinct}

-- names: each is one, and no column or index is `id`
abbrev pub has_names : TableDraft → Bool
has_names t = is_name t.name && list_all (λ c. is_free_name c.name) t.columns && list_all (λ i. is_free_name i.name) t.indexes

-- no two columns and no two indexes have one name
abbrev pub has_no_twins : TableDraft → Bool
has_no_twins t = are_distinct (map (λ c. c.name) t.columns) && are_distinct (map (λ i. i.name) t.indexes)

-- nor two tables
abbrev pub are_no_twins : List TableDraft → Bool
are_no_twins ts = are_distinct (map (λ t. t.name) ts) && list_all has_no_twins ts

-- the words of types and of kinds
abbrev pub type_named : List ℕ → Option ColumnType
type_named word =
    if bytes_eq word (codes "int") then Some column.Int
    else if bytes_eq word (codes "text") then Some column.Text
    else if bytes_eq word (codes "flag") then Some column.Flag
    else None

abbrev pub kind_named : List ℕ → Option IndexKind
kind_named word =
    if bytes_eq word (codes "ordered") then Some Ordered
    else if bytes_eq word (codes "ranked") then Some Ranked
    else if bytes_eq word (codes "hashed") then Some Hashed
    else if bytes_eq word (codes "sequenced") then Some Sequenced
    else None

abbrev pub has_types : TableDraft → Bool
has_types t = list_all (λ c. is_some (type_named c.kind)) t.columns

abbrev pub has_kinds : TableDraft → Bool
has_kinds t = list_all (λ i. is_some (kind_named i.kind)) t.indexes

-- an entry of a key is a column's name, behind `-`, which is 45, where the part descends
abbrev pub descends : List ℕ → Bool
descends [] = false
descends (b ∷ bs) = b == 45

abbrev pub named_column : List ℕ → List ℕ
named_column [] = []
named_column (b ∷ bs) = if b == 45 then bs else b ∷ bs

-- the number of the column of this name; where none has it, how many columns there are
abbrev pub column_number : List DraftColumn → List ℕ → ℕ
column_number cs name = unwrap_or (position (λ c. bytes_eq c.name name) cs) (length cs)

-- the entries of a key, none where there is no key
abbrev pub key_entries : DraftIndex → List (List ℕ)
key_entries i = unwrap_or i.key []

-- the column of an entry
abbrev pub entry_column : List DraftColumn → List ℕ → ℕ
entry_column cs entry = column_number cs (named_column entry)

-- no column is named twice
abbrev pub are_named_once : List DraftColumn → List (List ℕ) → Bool
are_named_once cs [] = true
are_named_once cs (e ∷ es) = not (list_any (λ other. entry_column cs e == entry_column cs other) es) && are_named_once cs es

-- one entry or more, of columns that are there, none of them named twice
abbrev pub names_columns : List DraftColumn → List (List ℕ) → Bool
names_columns cs es = nat_lt 0 (length es) && list_all (λ e. nat_lt (entry_column cs e) (length cs)) es && are_named_once cs es

-- a key for each kind but the sequenced, which has none and isn't unique; a hashed key has no descending part
abbrev pub has_key_for : IndexKind → List DraftColumn → DraftIndex → Bool
has_key_for Ordered cs i = names_columns cs (key_entries i)
has_key_for Ranked cs i = names_columns cs (key_entries i)
has_key_for Hashed cs i = names_columns cs (key_entries i) && list_all (λ e. not (descends e)) (key_entries i)
has_key_for Sequenced cs i = not i.«unique» && is_none i.key

abbrev pub kind_or_sequenced : List ℕ → IndexKind
kind_or_sequenced word = unwrap_or (kind_named word) Sequenced

abbrev pub has_key : List DraftColumn → DraftIndex → Bool
has_key cs i = has_key_for (kind_or_sequenced i.kind) cs i

abbrev pub has_index_keys : TableDraft → Bool
has_index_keys t = list_all (has_key t.columns) t.indexes

-- the sizes of a table, and how many tables there are
abbrev pub has_limits : TableDraft → Bool
has_limits t =
    nat_lt 0 (length t.columns) && nat_le (length t.columns) MAX_COLUMNS && nat_le (length t.indexes) MAX_INDEXES
    && list_all (λ i. nat_le (length (key_entries i)) MAX_KEY_PARTS) t.indexes

abbrev pub are_few : List TableDraft → Bool
are_few ts = nat_lt 0 (length ts) && nat_le (length ts) MAX_TABLES && list_all has_limits ts

-- a first counter, and the most rows of a table
abbrev pub is_count : ℤ → Bool
is_count (pos n) = nat_le n LAST_COUNT
is_count (negsuc n) = false

abbrev pub is_most_rows : ℤ → Bool
is_most_rows (pos n) = nat_lt 0 n && nat_le n MAX_ROWS
is_most_rows (negsuc n) = false

abbrev pub has_numbers : TableDraft → Bool
has_numbers t = is_count t.first_id && is_count t.first_arrival && is_most_rows t.max_rows

abbrev pub are_numbered : CatalogDraft → Bool
are_numbered d = is_count d.first_revision && list_all has_numbers d.tables

-- the first check that fails
unfoldable pub fault_of : CatalogDraft → Option SchemaFault
fault_of d =
    if not (list_all has_names d.tables) then Some Name
    else if not (are_no_twins d.tables) then Some Twice
    else if not (list_all has_types d.tables) then Some ColType
    else if not (list_all has_kinds d.tables) then Some Kind
    else if not (list_all has_index_keys d.tables) then Some Key
    else if not (are_few d.tables) then Some Limit
    else if not (are_numbered d) then Some Number
    else None
