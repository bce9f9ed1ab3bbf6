-- The rules that every schema and every catalog keeps.
use Rattle.std.specs.Prelude.{ℕ, Bool, true, false, not, ◌&&◌, ◌||◌, ◌==◌, nat_le, nat_lt, bytes_eq, codes, List, [], ◌∷◌, length, map}
use Rattle.std.specs.List.{list_all, list_any}
use Rattle.mi_value.specs.declared.compare.KeyPart.{KeyPart}
use Rattle.mi_value.specs.declared.limits.TheConstants.{MAX_COLUMNS, MAX_INDEXES, MAX_KEY_PARTS, MAX_TABLES, MAX_NAME, MAX_ROWS, LAST_COUNT}
use Rattle.mi_catalog.specs.declared.index.Column.{Column}
use Rattle.mi_catalog.specs.declared.index.Index.{Index}
use Rattle.mi_catalog.specs.declared.index.IndexKind.{IndexKind}
use Rattle.mi_catalog.specs.declared.index.IndexKind.TheVariants.{Ordered, Ranked, Hashed, Sequenced}
use Rattle.mi_catalog.specs.Kinds.{is_ranked}
use Rattle.mi_catalog.specs.Shape.{Shape, CatalogShape}

-- a letter a to z or `_`
abbrev pub starts_name : ℕ → Bool
starts_name b = (nat_le 97 b && nat_le b 122) || (b == 95)

-- such a letter or a digit
abbrev pub continues_name : ℕ → Bool
continues_name b = starts_name b || (nat_le 48 b && nat_le b 57)

-- a letter, and then letters and digits, 32 at most
abbrev pub is_name : List ℕ → Bool
is_name [] = false
is_name (b ∷ bs) = starts_name b && list_all continues_name bs && nat_le (length (b ∷ bs)) MAX_NAME

-- a name that isn't `id`, which is the index by the id and its member in a row
abbrev pub is_free_name : List ℕ → Bool
is_free_name name = is_name name && not (bytes_eq name (codes "id"))

-- no name stands twice
abbrev pub are_distinct : List (List ℕ) → Bool
are_distinct [] = true
are_distinct (name ∷ names) = not (list_any (λ other. bytes_eq name other) names) && are_distinct names

-- no column stands twice
abbrev pub names_each_once : List KeyPart → Bool
names_each_once [] = true
names_each_once (p ∷ ps) = not (list_any (λ q. p.column == q.column) ps) && names_each_once ps

-- one part or more, of columns that are there, none of them twice
abbrev pub is_key : ℕ → List KeyPart → Bool
is_key columns ps = nat_lt 0 (length ps) && nat_le (length ps) MAX_KEY_PARTS && list_all (λ p. nat_lt p.column columns) ps && names_each_once ps

-- a key for each kind but the sequenced, which has none and isn't unique; a hashed key has no descending part
abbrev pub keeps_kind : ℕ → IndexKind → Bool → List KeyPart → Bool
keeps_kind columns Ordered one_each ps = is_key columns ps
keeps_kind columns Ranked one_each ps = is_key columns ps
keeps_kind columns Hashed one_each ps = is_key columns ps && list_all (λ p. not p.descending) ps
keeps_kind columns Sequenced one_each ps = not one_each && (length ps == 0)

abbrev pub is_declared_index : ℕ → Index → Bool
is_declared_index columns i = is_free_name i.name && keeps_kind columns i.kind i.«unique» i.parts

-- the index `id`: ranked, unique, by the id
abbrev pub is_id_index : Index → Bool
is_id_index i = bytes_eq i.name (codes "id") && is_ranked i.kind && i.«unique» && (length i.parts == 0)

-- the index `id` first, then the declared ones
abbrev pub are_indexes : ℕ → List Index → Bool
are_indexes columns [] = false
are_indexes columns (i ∷ is) = is_id_index i && list_all (is_declared_index columns) is && nat_le (length is) MAX_INDEXES && are_distinct (map (λ j. j.name) is)

abbrev pub are_columns : List Column → Bool
are_columns cs = nat_lt 0 (length cs) && nat_le (length cs) MAX_COLUMNS && list_all (λ c. is_free_name c.name) cs && are_distinct (map (λ c. c.name) cs)

-- counters from 0 to 2^63 - 1, and 1 to 2^24 rows at most
abbrev pub are_numbers : Shape → Bool
are_numbers s = nat_le s.first_id LAST_COUNT && nat_le s.first_arrival LAST_COUNT
    && nat_le s.first_revision LAST_COUNT && nat_lt 0 s.max_rows && nat_le s.max_rows MAX_ROWS

abbrev pub is_schema : Shape → Bool
is_schema s = is_name s.table_name && are_columns s.columns && are_indexes (length s.columns) s.indexes && are_numbers s

-- one table or more, no two of one name, all opening with one revision
abbrev pub is_catalog : CatalogShape → Bool
is_catalog c =
    nat_lt 0 (length c.tables) && nat_le (length c.tables) MAX_TABLES && list_all is_schema c.tables
    && are_distinct (map (λ s. s.table_name) c.tables) && list_all (λ s. s.first_revision == c.first_revision) c.tables
