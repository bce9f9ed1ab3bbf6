-- What follows where no check of a draft fails: the schemas of its tables, and the catalog, keep every rule.
-- Cited by `Draft::catalog`.
use Rattle.std.proofs.Common.{◌≡◌, ℕ, ℤ, pos, negsuc, List, [], ◌∷◌, length, map, Bool, true, false, not, cond, Option, Some, None, refl, ap, ◌∙◌, ◌&&◌}
use Rattle.std.specs.Prelude.{◌==◌, nat_le, nat_lt, unsigned_abs, unwrap_or, IsTrue}
use Rattle.std.specs.Option.{is_none}
use Rattle.std.specs.List.{list_any, list_all}
use Rattle.std.proofs.lemmas.List.{length-map}
use Rattle.std.proofs.lemmas.Bool.{and_parts, and_from, false≢true, eq-eqb}
use Rattle.mi_value.specs.declared.limits.TheConstants.{MAX_COLUMNS, MAX_INDEXES, MAX_KEY_PARTS, MAX_TABLES, MAX_ROWS, LAST_COUNT}
use Rattle.mi_schema.specs.declared.draft.DraftColumn.{DraftColumn}
use Rattle.mi_schema.specs.declared.draft.DraftIndex.{DraftIndex}
use Rattle.mi_schema.specs.declared.fault.SchemaFault.{SchemaFault}
use Rattle.mi_catalog.specs.declared.index.IndexKind.{IndexKind}
use Rattle.mi_catalog.specs.declared.index.IndexKind.TheVariants.{Ordered, Ranked, Hashed, Sequenced}
use Rattle.mi_schema.specs.Draft.{TableDraft, CatalogDraft}
use Rattle.mi_catalog.specs.Shape.{Shape}
use Rattle.mi_catalog.specs.Rules as rules
use Rattle.mi_schema.specs.Checks.{has_names, has_no_twins, are_no_twins, has_types, has_kinds}
use Rattle.mi_schema.specs.Checks.{has_index_keys, has_key, has_key_for, has_limits, are_few, has_numbers}
use Rattle.mi_schema.specs.Checks.{are_numbered, is_count, is_most_rows, key_entries, entry_column, are_named_once, names_columns, kind_or_sequenced, fault_of}
use Rattle.mi_schema.proofs.ListLaws.{any_of_map, all_of_map, map_map}
use Rattle.mi_schema.specs.Reading.{column_from, part_from, parts_from, index_from, id_index, shape_from, catalog_from}

-- parts and entries name their columns alike
each_once : (cs : List DraftColumn) (es : List (List ℕ)) → rules.names_each_once (map (part_from cs) es) ≡ are_named_once cs es
each_once cs [] = refl
each_once cs (e ∷ es) =
    ap (λ b. not b && rules.names_each_once (map (part_from cs) es)) (any_of_map (λ q. entry_column cs e == q.column) (part_from cs) es)
    ∙ ap (λ b. not (list_any (λ other. entry_column cs e == entry_column cs other) es) && b) (each_once cs es)

key_kept : (n : ℕ) (cs : List DraftColumn) (es : List (List ℕ)) → n ≡ length cs → names_columns cs es ≡ true
    → nat_le (length es) MAX_KEY_PARTS ≡ true → rules.is_key n (map (part_from cs) es) ≡ true
key_kept n cs es is named few =
    let parts = and_parts _ _ named in
    let some = and_parts _ _ parts.0 in
    let long : length (map (part_from cs) es) ≡ length es = length-map es (part_from cs) in
    let known : list_all (λ p. nat_lt p.column n) (map (part_from cs) es) ≡ true = all_of_map (λ p. nat_lt p.column n) (part_from cs) es
    ∙ ap (λ m. list_all (λ e. nat_lt (entry_column cs e) m) es) is ∙ some.1 in
    and_from _ _ (and_from _ _ (and_from _ _ (ap (nat_lt 0) long ∙ some.0) (ap (λ m. nat_le m MAX_KEY_PARTS) long ∙ few)) known) (each_once cs es ∙ parts.1)

no_parts : (cs : List DraftColumn) (key : Option (List (List ℕ))) → is_none key ≡ true → (length (map (part_from cs) (unwrap_or key [])) == 0) ≡ true
no_parts cs None h = refl
no_parts cs (Some es) h = absurd (false≢true h)

kind_kept : (kind : IndexKind) (n : ℕ) (cs : List DraftColumn) (i : DraftIndex) → n ≡ length cs → has_key_for kind cs i ≡ true
    → nat_le (length (key_entries i)) MAX_KEY_PARTS ≡ true → rules.keeps_kind n kind i.«unique» (parts_from cs i) ≡ true
kind_kept Ordered n cs i is h few = key_kept n cs (key_entries i) is h few
kind_kept Ranked n cs i is h few = key_kept n cs (key_entries i) is h few
kind_kept Hashed n cs i is h few =
    let parts = and_parts _ _ h in
    and_from _ _ (key_kept n cs (key_entries i) is parts.0 few) (all_of_map (λ p. not p.descending) (part_from cs) (key_entries i) ∙ parts.1)
kind_kept Sequenced n cs i is h few =
    let parts = and_parts _ _ h in
    and_from _ _ parts.0 (no_parts cs i.key parts.1)

indexes_kept : (n : ℕ) (cs : List DraftColumn) (is : List DraftIndex) → n ≡ length cs → list_all (λ i. rules.is_free_name i.name) is ≡ true
    → list_all (has_key cs) is ≡ true → list_all (λ i. nat_le (length (key_entries i)) MAX_KEY_PARTS) is ≡ true
    → list_all (rules.is_declared_index n) (map (index_from cs) is) ≡ true
indexes_kept n cs [] same names keys few = refl
indexes_kept n cs (i ∷ is) same names keys few =
    let name = and_parts _ _ names in
    let key = and_parts _ _ keys in
    let size = and_parts _ _ few in
    and_from _ _ (and_from _ _ name.0 (kind_kept (kind_or_sequenced i.kind) n cs i same key.0 size.0)) (indexes_kept n cs is same name.1 key.1 size.1)

count_kept : (z : ℤ) → is_count z ≡ true → nat_le (unsigned_abs z) LAST_COUNT ≡ true
count_kept (pos n) h = h
count_kept (negsuc n) h = absurd (false≢true h)

rows_kept : (z : ℤ) → is_most_rows z ≡ true → (nat_lt 0 (unsigned_abs z) ≡ true) × (nat_le (unsigned_abs z) MAX_ROWS ≡ true)
rows_kept (pos n) h = and_parts _ _ h
rows_kept (negsuc n) h = absurd (false≢true h)

-- the schema of a table keeps every rule
schema_kept : (revision : ℕ) (t : TableDraft) → nat_le revision LAST_COUNT ≡ true → has_names t ≡ true → has_no_twins t ≡ true
    → has_index_keys t ≡ true → has_limits t ≡ true → has_numbers t ≡ true → rules.is_schema (shape_from revision t) ≡ true
schema_kept revision t start names twins keys limits numbers =
    let named = and_parts _ _ names in
    let table = and_parts _ _ named.0 in
    let once = and_parts _ _ twins in
    let few = and_parts _ _ limits in
    let indexes = and_parts _ _ few.0 in
    let columns = and_parts _ _ indexes.0 in
    let rows = and_parts _ _ numbers in
    let counts = and_parts _ _ rows.0 in
    let most = rows_kept t.max_rows rows.1 in
    let wide : length (map column_from t.columns) ≡ length t.columns = length-map t.columns column_from in
    let many : length (map (index_from t.columns) t.indexes) ≡ length t.indexes = length-map t.indexes (index_from t.columns) in
    let column_names : map (λ c. c.name) (map column_from t.columns) ≡ map (λ c. c.name) t.columns = map_map (λ c. c.name) column_from t.columns in
    let index_names : map (λ j. j.name) (map (index_from t.columns) t.indexes)
    ≡ map (λ i. i.name) t.indexes = map_map (λ j. j.name) (index_from t.columns) t.indexes in
    let of_columns : rules.are_columns (map column_from t.columns) ≡ true =
    and_from _ _ (and_from _ _ (and_from _ _ (ap (nat_lt 0) wide ∙ columns.0) (ap (λ m. nat_le m MAX_COLUMNS) wide ∙ columns.1))
    (all_of_map (λ c. rules.is_free_name c.name) column_from t.columns ∙ table.1)) (ap rules.are_distinct column_names ∙ once.0) in
    let of_indexes : rules.are_indexes (length (map column_from t.columns)) (id_index ∷ map (index_from t.columns) t.indexes) ≡ true =
    and_from _ _ (and_from _ _ (and_from _ _ refl (indexes_kept (length (map column_from t.columns)) t.columns t.indexes wide named.1 keys few.1))
    (ap (λ m. nat_le m MAX_INDEXES) many ∙ indexes.1))
    (ap rules.are_distinct index_names ∙ once.1) in
    let of_numbers : rules.are_numbers (shape_from revision t) ≡ true =
    and_from _ _ (and_from _ _ (and_from _ _ (and_from _ _ (count_kept t.first_id counts.0) (count_kept t.first_arrival counts.1)) start) most.0) most.1 in
    and_from _ _ (and_from _ _ (and_from _ _ table.0 of_columns) of_indexes) of_numbers

schemas_kept : (revision : ℕ) (ts : List TableDraft) → nat_le revision LAST_COUNT ≡ true → list_all has_names ts ≡ true
    → list_all has_no_twins ts ≡ true → list_all has_index_keys ts ≡ true → list_all has_limits ts ≡ true → list_all has_numbers ts ≡ true
    → list_all (λ t. rules.is_schema (shape_from revision t)) ts ≡ true
schemas_kept revision [] start names twins keys limits numbers = refl
schemas_kept revision (t ∷ ts) start names twins keys limits numbers =
    let name = and_parts _ _ names in
    let twin = and_parts _ _ twins in
    let key = and_parts _ _ keys in
    let limit = and_parts _ _ limits in
    let number = and_parts _ _ numbers in
    and_from _ _ (schema_kept revision t start name.0 twin.0 key.0 limit.0 number.0) (schemas_kept revision ts start name.1 twin.1 key.1 limit.1 number.1)

-- what holds of a draft that no check refuses
pub record Kept (d : CatalogDraft) : Type 0 where
  pub names : list_all has_names d.tables ≡ true
  pub twins : are_no_twins d.tables ≡ true
  pub keys : list_all has_index_keys d.tables ≡ true
  pub limits : are_few d.tables ≡ true
  pub numbers : are_numbered d ≡ true

passes : (b : Bool) (e : SchemaFault) (others : Option SchemaFault) → cond (not b) (Some e) others ≡ None → (b ≡ true) × (others ≡ None)
passes true e others h = (refl, h)
passes false e others h = absurd (cc)

kept : (d : CatalogDraft) → fault_of d ≡ None → Kept d
unfolding fault_of
kept d h =
    let names = passes (list_all has_names d.tables) _ _ h in
    let twins = passes (are_no_twins d.tables) _ _ names.1 in
    let types = passes (list_all has_types d.tables) _ _ twins.1 in
    let kinds = passes (list_all has_kinds d.tables) _ _ types.1 in
    let keys = passes (list_all has_index_keys d.tables) _ _ kinds.1 in
    let limits = passes (are_few d.tables) _ _ keys.1 in
    let numbers = passes (are_numbered d) _ _ limits.1 in
    record { names = names.0; twins = twins.0; keys = keys.0; limits = limits.0; numbers = numbers.0 }

-- the schema of each table keeps every rule
tables_kept : (d : CatalogDraft) → fault_of d ≡ None → list_all (λ t. rules.is_schema (shape_from (unsigned_abs d.first_revision) t)) d.tables ≡ true
tables_kept d h =
    let k : Kept d = kept d h in
    let numbers = and_parts _ _ k.numbers in
    schemas_kept (unsigned_abs d.first_revision) d.tables (count_kept d.first_revision numbers.0)
    k.names (and_parts _ _ k.twins).1 k.keys (and_parts _ _ k.limits).1 numbers.1

one_revision : (revision : ℕ) (ts : List TableDraft) → list_all (λ s. s.first_revision == revision) (map (shape_from revision) ts) ≡ true
one_revision revision [] = refl
one_revision revision (t ∷ ts) = and_from _ _ (eq-eqb revision revision refl) (one_revision revision ts)

-- and so does the catalog
catalog_kept : (d : CatalogDraft) → fault_of d ≡ None → rules.is_catalog (catalog_from d) ≡ true
catalog_kept d h =
    let k : Kept d = kept d h in
    let revision = unsigned_abs d.first_revision in
    let few = and_parts _ _ k.limits in
    let some = and_parts _ _ few.0 in
    let many : length (map (shape_from revision) d.tables) ≡ length d.tables = length-map d.tables (shape_from revision) in
    let names : map (λ s. s.table_name) (map (shape_from revision) d.tables)
    ≡ map (λ t. t.name) d.tables = map_map (λ s. s.table_name) (shape_from revision) d.tables in
    and_from _ _ (and_from _ _ (and_from _ _ (and_from _ _ (ap (nat_lt 0) many ∙ some.0) (ap (λ m. nat_le m MAX_TABLES) many ∙ some.1))
    (all_of_map rules.is_schema (shape_from revision) d.tables ∙ tables_kept d h))
    (ap rules.are_distinct names ∙ (and_parts _ _ k.twins).0)) (one_revision revision d.tables)

-- the same of the tables and the revision that code has at hand
pub tables_hold : (d : CatalogDraft) (revision : ℕ) (ts : List TableDraft) → fault_of d ≡ None
    → revision ≡ unsigned_abs d.first_revision → ts ≡ d.tables → IsTrue (list_all (λ t. rules.is_schema (shape_from revision t)) ts)
tables_hold d revision ts h opens are =
    ap (λ (r : ℕ). list_all (λ t. rules.is_schema (shape_from r t)) ts) opens
    ∙ ap (λ (us : List TableDraft). list_all (λ t. rules.is_schema (shape_from (unsigned_abs d.first_revision) t)) us) are ∙ tables_kept d h

pub catalog_holds : (d : CatalogDraft) (revision : ℕ) (ss : List Shape) (ts : List TableDraft) → fault_of d ≡ None
    → revision ≡ unsigned_abs d.first_revision → ts ≡ d.tables → ss ≡ map (shape_from revision) ts
    → IsTrue (rules.is_catalog (record { tables = ss; first_revision = revision }))
catalog_holds d revision ss ts h opens are made =
    ap (λ (us : List Shape). rules.is_catalog (record { tables = us; first_revision = revision })) made
    ∙ ap (λ (us : List TableDraft). rules.is_catalog (record { tables = map (shape_from revision) us; first_revision = revision })) are
    ∙ ap (λ (r : ℕ). rules.is_catalog (record { tables = map (shape_from r) d.tables; first_revision = r })) opens
    ∙ catalog_kept d h
