-- What a document says before its rules are checked: which members each level has, and of which kind each is.
use Rattle.std.specs.Prelude.{◌≡◌, ℕ, ℤ, pos, List, [], ◌∷◌, Bool, true, false, ◌&&◌, if◌then◌else◌, Option}
use Rattle.std.specs.Prelude.{Some, None, option_map, option_and_then, Result, Ok, Err, bytes_eq, codes}
use Rattle.std.specs.List.{list_any}
use Rattle.std.specs.Ordering.{int_eq}
use Rattle.toml.specs.Data.{Data, Items, no_items, item, Members, no_members, member, get_member, as_str, as_integer, as_bool, as_array, as_table}
use Rattle.mi_value.specs.declared.limits.TheConstants.{DEFAULT_MAX_ROWS}
use Rattle.mi_schema.specs.declared.draft.DraftColumn.{DraftColumn}
use Rattle.mi_schema.specs.declared.draft.DraftIndex.{DraftIndex}
use Rattle.mi_schema.specs.declared.document.Misread.{Misread}
use Rattle.mi_schema.specs.declared.document.Misread.TheVariants as misread
use Rattle.mi_schema.specs.Draft.{TableDraft, CatalogDraft}

infixl 10 ◌>>=◌
abbrev pub ◌>>=◌ : {A B : Type 0} → Option A → (A → Option B) → Option B
o >>= f = option_and_then f o

-- What a function returned, seen by view, is what was to be read, unless memory ran out.
abbrev pub Fails : {Y : Type 0} → Misread → Option Y → Type 0
Fails misread.Memory read = Unit {0}
Fails misread.Shape read = read ≡ None

abbrev pub IsReadAs : {X Y : Type 0} → (X → Y) → Result X Misread → Option Y → Type 0
IsReadAs view (Ok x) read = read ≡ Some (view x)
IsReadAs view (Err e) read = Fails e read

-- no member has another name than these
unfoldable pub has_no_other : List (List ℕ) → Members → Bool
has_no_other names no_members = true
has_no_other names (member k d ms) = list_any (λ n. bytes_eq k n) names && has_no_other names ms

-- these members, where no one has another name
abbrev pub only : List (List ℕ) → Members → Option Members
only names ms = if has_no_other names ms then Some ms else None

-- a member that has to be there
abbrev pub required : {A : Type 0} → (Data → Option A) → List ℕ → Members → Option A
required kind k ms = option_and_then kind (get_member k ms)

-- a member that may be absent, and what stands for it then
abbrev pub or_default_if : {A : Type 0} → A → (Data → Option A) → Option Data → Option A
or_default_if absent kind None = Some absent
or_default_if absent kind (Some d) = kind d

abbrev pub or_default : {A : Type 0} → A → (Data → Option A) → List ℕ → Members → Option A
or_default absent kind k ms = or_default_if absent kind (get_member k ms)

-- all items, each read alike
abbrev pub in_front : {A : Type 0} → Option A → Option (List A) → Option (List A)
in_front first others = first >>= (λ x. option_map (λ xs. x ∷ xs) others)

unfoldable pub each : {A : Type 0} → (Data → Option A) → Items → Option (List A)
each kind no_items = Some []
each kind (item d ds) = in_front (kind d) (each kind ds)

-- an array of such items
abbrev pub array_of : {A : Type 0} → (Data → Option A) → Data → Option (List A)
array_of kind d = as_array d >>= each kind

-- a column: exactly a name and the word of a type
unfoldable pub column_draft : Data → Option DraftColumn
column_draft d = do
  all ← as_table d
  ms ← only (codes "name" ∷ codes "type" ∷ []) all
  name ← required as_str (codes "name") ms
  kind ← required as_str (codes "type") ms
  Some (record { name = name; kind = kind })

-- the texts of a key, if there is a key
abbrev pub key_draft : Data → Option (Option (List (List ℕ)))
key_draft d = option_map Some (array_of as_str d)

-- an index: a name and the word of a kind, and if it is so whether it is unique and the key
unfoldable pub index_draft : Data → Option DraftIndex
index_draft d = do
  all ← as_table d
  ms ← only (codes "name" ∷ codes "kind" ∷ codes "unique" ∷ codes "key" ∷ []) all
  name ← required as_str (codes "name") ms
  kind ← required as_str (codes "kind") ms
  one_each ← or_default false as_bool (codes "unique") ms
  key ← or_default None key_draft (codes "key") ms
  Some (record { name = name; kind = kind; «unique» = one_each; key = key })

-- a table of this name
unfoldable pub table_draft : List ℕ → Members → Option TableDraft
table_draft name ms = do
  columns ← required (array_of column_draft) (codes "column") ms
  indexes ← or_default [] (array_of index_draft) (codes "index") ms
  first_id ← or_default (pos 0) as_integer (codes "first_id") ms
  first_arrival ← or_default (pos 0) as_integer (codes "first_arrival") ms
  max_rows ← or_default (pos DEFAULT_MAX_ROWS) as_integer (codes "max_rows") ms
  Some (record { name = name; columns = columns; indexes = indexes; first_id = first_id; first_arrival = first_arrival; max_rows = max_rows })

-- a document of one table, which is the table's own, but that its name is the member `table`
unfoldable pub one_table : Members → Option CatalogDraft
one_table ms = do
  name ← required as_str (codes "table") ms
  table ← table_draft name ms
  first_revision ← or_default (pos 0) as_integer (codes "first_revision") ms
  Some (record { tables = table ∷ []; first_revision = first_revision })

-- a table among several
unfoldable pub named_table : Data → Option TableDraft
named_table d = do
  all ← as_table d
  ms ← only (codes "name" ∷ codes "column" ∷ codes "index" ∷ codes "first_id" ∷ codes "first_arrival" ∷ codes "max_rows" ∷ []) all
  name ← required as_str (codes "name") ms
  table_draft name ms

-- a document of several tables
unfoldable pub several_tables : Members → Option CatalogDraft
several_tables all = do
  ms ← only (codes "format" ∷ codes "table" ∷ codes "first_revision" ∷ []) all
  tables ← required (array_of named_table) (codes "table") ms
  first_revision ← or_default (pos 0) as_integer (codes "first_revision") ms
  Some (record { tables = tables; first_revision = first_revision })

-- the members of a document of one table
abbrev pub schema_members : List (List ℕ)
schema_members = codes "table" ∷ codes "column" ∷ codes "index" ∷ codes "first_id" ∷ codes "first_arrival" ∷ codes "first_revision" ∷ codes "max_rows" ∷ []

-- a document that is a schema
unfoldable pub schema_draft : Members → Option CatalogDraft
schema_draft all = only schema_members all >>= one_table

-- the same where the document may name its format
unfoldable pub first_format : Members → Option CatalogDraft
first_format all = only (codes "format" ∷ schema_members) all >>= one_table

-- a document that is a catalog: of one table, in the format that is meant where none is named, or of several
abbrev pub in_format : ℤ → Members → Option CatalogDraft
in_format format all = if int_eq format (pos 1) then first_format all else if int_eq format (pos 2) then several_tables all else None

unfoldable pub catalog_draft : Members → Option CatalogDraft
catalog_draft all = or_default (pos 1) as_integer (codes "format") all >>= (λ format. in_format format all)
