-- What follows from the rules of a schema and of a catalog.
-- Cited by `Catalog::first_revision`, `Schema::first_arrival`, `Schema::first_id`, 3 more, `mi_database`, `mi_index` and `mi_multi`.
use Rattle.std.proofs.Common.{◌≡◌, ℕ, zero, suc, ◌<◌, ◌≤◌, true, false, List, [], ◌∷◌, length, slice_index_or, ap, subst, arith}
use Rattle.std.specs.Prelude.{◌==◌, bytes_eq, codes}
use Rattle.std.specs.List.{list_all}
use Rattle.std.proofs.lemmas.Bool.{and_parts, leb-true, ltb-true, eqb-true}
use Rattle.std.proofs.lemmas.Slice.Eq.{bytes_eq-Decides}
use Rattle.mi_value.specs.declared.limits.TheConstants.{MAX_NAME, MAX_ROWS, LAST_COUNT}
use Rattle.mi_catalog.specs.declared.index.Index.{Index}
use Rattle.mi_catalog.specs.declared.index.IndexKind.TheVariants.{Hashed}
use Rattle.mi_catalog.specs.Shape.{Shape, CatalogShape, schema_at, index_at}
use Rattle.mi_catalog.specs.Rules.{is_name, are_indexes, is_id_index, is_declared_index, are_numbers, is_schema, is_catalog}

is_name-short : (name : List ℕ) → is_name name ≡ true → length name ≤ MAX_NAME
is_name-short [] h = absurd (cc)
is_name-short (b ∷ bs) h = leb-true _ _ (and_parts _ _ h).1

-- texts that pass the test are equal
bytes_eq-true : (xs ys : List ℕ) → bytes_eq xs ys ≡ true → xs ≡ ys
bytes_eq-true xs ys h = (bytes_eq-Decides xs ys).0 h

abbrev none : Index
none = record { name = []; kind = Hashed; «unique» = false; parts = [] }

declared_short : (columns : ℕ) (is : List Index) (k : ℕ) → list_all (is_declared_index columns) is ≡ true → length (slice_index_or is k none).name ≤ MAX_NAME
declared_short columns [] k h = omega arith
declared_short columns (i ∷ is) zero h = is_name-short i.name (and_parts _ _ (and_parts _ _ (and_parts _ _ h).0).0).0
declared_short columns (i ∷ is) (suc k) h = declared_short columns is k (and_parts _ _ h).1

id_short : (i : Index) → is_id_index i ≡ true → length i.name ≤ MAX_NAME
id_short i h =
    let e : i.name ≡ codes "id" = bytes_eq-true _ _ (and_parts _ _ (and_parts _ _ (and_parts _ _ h).0).0).0 in
    omega (arith, ap length e)

indexes_short : (columns : ℕ) (is : List Index) (k : ℕ) → are_indexes columns is ≡ true → length (slice_index_or is k none).name ≤ MAX_NAME
indexes_short columns [] k h = omega arith
indexes_short columns (i ∷ is) zero h = id_short i (and_parts _ _ (and_parts _ _ (and_parts _ _ h).0).0).0
indexes_short columns (i ∷ is) (suc k) h = declared_short columns is k (and_parts _ _ (and_parts _ _ (and_parts _ _ h).0).0).1

-- an index's name has at most 32 bytes
pub index_name_short : (s : Shape) (x : ℕ) → is_schema s ≡ true → length (index_at s x).name ≤ MAX_NAME
index_name_short s x h = indexes_short (length s.columns) s.indexes x (and_parts _ _ (and_parts _ _ h).0).1

numbers_kept : (s : Shape) → is_schema s ≡ true → are_numbers s ≡ true
numbers_kept s h = (and_parts _ _ h).1

-- the counters are at most 2^63 - 1, and the rows at most 2^24
pub record InLimits (s : Shape) : Type 0 where
  pub first_id : s.first_id ≤ LAST_COUNT
  pub first_arrival : s.first_arrival ≤ LAST_COUNT
  pub first_revision : s.first_revision ≤ LAST_COUNT
  pub some_rows : 0 < s.max_rows
  pub max_rows : s.max_rows ≤ MAX_ROWS

pub in_limits : (s : Shape) → is_schema s ≡ true → InLimits s
in_limits s h =
    let most = and_parts _ _ (numbers_kept s h) in
    let some = and_parts _ _ most.0 in
    let revision = and_parts _ _ some.0 in
    let counts = and_parts _ _ revision.0 in
    record {
      first_id = leb-true _ _ counts.0;
      first_arrival = leb-true _ _ counts.1;
      first_revision = leb-true _ _ revision.1;
      some_rows = ltb-true _ _ some.1;
      max_rows = leb-true _ _ most.1;
    }

-- the schema of an index that is there has one or more indexes, `id` first
pub has_indexes : (s : Shape) → is_schema s ≡ true → 0 < length s.indexes
has_indexes s h = some_index s.indexes (and_parts _ _ (and_parts _ _ h).0).1
  where
    some_index : (is : List Index) → are_indexes (length s.columns) is ≡ true → 0 < length is
    some_index [] e = absurd (cc)
    some_index (i ∷ is) e = omega arith

all_at : (ss : List Shape) (t : ℕ) (d : Shape) → list_all is_schema ss ≡ true → t < length ss → is_schema (slice_index_or ss t d) ≡ true
all_at [] t d h within = absurd (omega arith)
all_at (s ∷ ss) zero d h within = (and_parts _ _ h).0
all_at (s ∷ ss) (suc t) d h within = all_at ss t d (and_parts _ _ h).1 (omega arith)

-- each table of a catalog keeps the rules
pub table_kept : (c : CatalogShape) (t : ℕ) → is_catalog c ≡ true → t < length c.tables → is_schema (schema_at c t) ≡ true
table_kept c t h within = all_at c.tables t _ (and_parts _ _ (and_parts _ _ (and_parts _ _ h).0).0).1 within

one_revision : (ss : List Shape) (r : ℕ) → 0 < length ss → list_all is_schema ss ≡ true → list_all (λ s. s.first_revision == r) ss ≡ true → r ≤ LAST_COUNT
one_revision [] r some kept same = absurd (omega arith)
one_revision (s ∷ ss) r some kept same =
    let is : s.first_revision ≡ r = eqb-true _ _ (and_parts _ _ same).0 in
    subst (λ n. n ≤ LAST_COUNT) is (in_limits s (and_parts _ _ kept).0).first_revision

-- the revision that a catalog opens with is that of its tables
pub revision_in_limits : (c : CatalogShape) → is_catalog c ≡ true → c.first_revision ≤ LAST_COUNT
revision_in_limits c h =
    let distinct = and_parts _ _ h in
    let kept = and_parts _ _ distinct.0 in
    let counted = and_parts _ _ kept.0 in
    one_revision c.tables c.first_revision (ltb-true _ _ (and_parts _ _ counted.0).0) counted.1 distinct.1
