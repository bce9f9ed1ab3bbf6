-- Under its own schema a table stays what it is.
-- Cited by `laws::reshaped_to_same`, `CatalogLemmas` and `LostLemmas`.
use Rattle.std.proofs.Common.{◌≡◌, ℕ, zero, suc, ◌+◌, ◌<◌, Bool, true, false, cond, List, [], ◌∷◌, map, length, slice_index_or, refl, sym, ap, ◌∙◌, arith}
use Rattle.std.specs.Prelude.{not, ◌||◌, bytes_eq, codes, option_and_then}
use Rattle.std.specs.Option.{option_map_or}
use Rattle.std.specs.List.{list_all, list_any, position, position_from}
use Rattle.std.specs.declared.option.Option.TheVariants.{None, Some}
use Rattle.std.proofs.lemmas.Bool.{and_parts, false≢true}
use Rattle.std.proofs.lemmas.Slice.Eq.{bytes_eq-Decides}
use Rattle.std.proofs.lemmas.Iterator.Adapters.{position_from-zero}
use Rattle.mi_value.specs.declared.value.Value.{Value}
use Rattle.mi_value.specs.declared.compare.KeyPart.{KeyPart}
use Rattle.mi_catalog.specs.declared.index.Column.{Column}
use Rattle.mi_catalog.specs.declared.index.Index.{Index}
use Rattle.mi_catalog.specs.declared.index.IndexKind.{IndexKind}
use Rattle.mi_catalog.specs.declared.index.IndexKind.TheVariants.{Ordered, Ranked, Hashed, Sequenced}
use Rattle.mi_catalog.specs.Shape.{Shape, index_at}
use Rattle.mi_catalog.specs.Key.{Row}
use Rattle.mi_catalog.specs.Rules.{are_distinct, are_indexes, is_declared_index, is_schema}
use Rattle.mi_catalog.specs.Fits.{fits_record}
use Rattle.mi_model.specs.Table.{Table, list_of, IsTable}
use Rattle.mi_reshape.specs.Reshaped.{first_value, reshaped_value, reshaped_row, reshaped_list, column_at, same_kind, same_flag, same_parts}
use Rattle.mi_reshape.specs.Reshaped.{same_index, kept_index, RowsFit, ReshapedToSame}
use Rattle.mi_reshape.proofs.FitLemmas.{and_both}

-- The first of a name is the one

bytes_self : (xs : List ℕ) → bytes_eq xs xs ≡ true
bytes_self xs = (bytes_eq-Decides xs xs).1 refl

neither : (a b : Bool) → (a || b) ≡ false → (a ≡ false) × (b ≡ false)
neither true b e = absurd (cc)
neither false b e = (refl, e)

not_true : (b : Bool) → not b ≡ true → b ≡ false
not_true true e = absurd (cc)
not_true false e = refl

other_name : {X : Type 0} (name : X → List ℕ) (n : List ℕ) (xs : List X) (k : ℕ) (d : X)
    → list_any (λ other. bytes_eq n other) (map name xs) ≡ false → k < length xs → bytes_eq n (name (slice_index_or xs k d)) ≡ false
other_name name n [] k d none within = absurd (omega arith)
other_name name n (x ∷ xs) zero d none within = (neither _ _ none).0
other_name name n (x ∷ xs) (suc k) d none within = other_name name n xs k d (neither _ _ none).1 (omega arith)

found_from : {X : Type 0} (name : X → List ℕ) (xs : List X) (i k : ℕ) (d : X) → are_distinct (map name xs) ≡ true → k < length xs
    → position_from (λ x. bytes_eq (name x) (name (slice_index_or xs k d))) i xs ≡ Some (i + k)
found_from name [] i k d distinct within = absurd (omega arith)
found_from name (x ∷ xs) i zero d distinct within =
    let sum : i ≡ i + 0 = omega arith in
    ap (λ b. cond b (Some i) (position_from (λ y. bytes_eq (name y) (name x)) (i + 1) xs)) (bytes_self (name x)) ∙ ap (λ n. Some n) sum
found_from name (x ∷ xs) i (suc k) d distinct within =
    let parts : (not (list_any (λ other. bytes_eq (name x) other) (map name xs)) ≡ true) × (are_distinct (map name xs) ≡ true) = and_parts _ _ distinct in
    let sum : (i + 1) + k ≡ i + suc k = omega arith in
    ap (λ b. cond b (Some i) (position_from (λ y. bytes_eq (name y) (name (slice_index_or xs k d))) (i + 1) xs))
    (other_name name (name x) xs k d (not_true _ parts.0) (omega arith))
    ∙ found_from name xs (i + 1) k d parts.1 (omega arith) ∙ ap (λ n. Some n) sum

found : {X : Type 0} (name : X → List ℕ) (xs : List X) (k : ℕ) (d : X) → are_distinct (map name xs) ≡ true → k < length xs
    → position (λ x. bytes_eq (name x) (name (slice_index_or xs k d))) xs ≡ Some k
found name xs k d distinct within =
    let sum : 0 + k ≡ k = omega arith in
    position_from-zero (λ x. bytes_eq (name x) (name (slice_index_or xs k d))) xs ∙ found_from name xs 0 k d distinct within ∙ ap (λ n. Some n) sum

-- a list that is made of another, place by place
by_places : {X Y : Type 0} (f : X → Y) (xs : List X) (ys : List Y) (d : X) (e : Y) → length ys ≡ length xs
    → ((k : ℕ) → k < length xs → f (slice_index_or xs k d) ≡ slice_index_or ys k e) → map f xs ≡ ys
by_places f [] [] d e long same = refl
by_places f [] (y ∷ ys) d e long same = absurd (omega arith)
by_places f (x ∷ xs) [] d e long same = absurd (omega arith)
by_places f (x ∷ xs) (y ∷ ys) d e long same =
    let first : f x ≡ y = same 0 (omega arith) in
    let rest = by_places f xs ys d e (omega arith) (λ k within. same (suc k) (omega arith)) in
    cc

-- Its rows

columns_distinct : (s : Shape) → is_schema s ≡ true → are_distinct (map (λ c. c.name) s.columns) ≡ true
columns_distinct s h = (and_parts _ _ (and_parts _ _ (and_parts _ _ (and_parts _ _ h).0).0).1).1

fits_long : (cs : List Column) (vs : List Value) → fits_record cs vs ≡ true → length vs ≡ length cs
fits_long [] [] h = refl
fits_long [] (v ∷ vs) h = absurd (cc)
fits_long (c ∷ cs) [] h = absurd (cc)
fits_long (c ∷ cs) (v ∷ vs) h = ap (λ n. suc n) (fits_long cs vs (and_parts _ _ h).1)

-- within a list the default doesn't matter
pub within_any : {X : Type 0} (xs : List X) (k : ℕ) (d e : X) → k < length xs → slice_index_or xs k d ≡ slice_index_or xs k e
within_any [] k d e within = absurd (omega arith)
within_any (x ∷ xs) zero d e within = refl
within_any (x ∷ xs) (suc k) d e within = within_any xs k d e (omega arith)

row_same : (s : Shape) (vs : List Value) → is_schema s ≡ true → fits_record s.columns vs ≡ true → reshaped_row s s vs ≡ vs
row_same s vs h fits =
    let long = fits_long s.columns vs fits in
    by_places (reshaped_value s vs) s.columns vs (column_at s (length s.columns)) (first_value (column_at s 0).kind) long
    (λ k within.
    let c = slice_index_or s.columns k (column_at s (length s.columns)) in
    ap (λ o. option_map_or (λ x. slice_index_or vs x (first_value c.kind)) o (first_value c.kind))
    (found (λ (d : Column). d.name) s.columns k (column_at s (length s.columns)) (columns_distinct s h) within)
    ∙ within_any vs k _ _ (omega (arith, long)))

rows_same : (s : Shape) (rows : List Row) → is_schema s ≡ true → RowsFit s rows → map {B = Row} (λ r. (r.0, reshaped_row s s r.1)) rows ≡ rows
rows_same s [] h fit = refl
rows_same s (r ∷ rows) h fit =
    let first : reshaped_row s s r.1 ≡ r.1 = row_same s r.1 h fit.0 in
    let with_values : List Value → Row = λ vs. (r.0, vs) in
    ap (λ vs. with_values vs ∷ map {B = Row} (λ q. (q.0, reshaped_row s s q.1)) rows) first ∙ ap (λ rest. r ∷ rest) (rows_same s rows h fit.1)

-- Its lists

kind_self : (k : IndexKind) → same_kind k k ≡ true
kind_self Ordered = refl
kind_self Ranked = refl
kind_self Hashed = refl
kind_self Sequenced = refl

flag_self : (b : Bool) → same_flag b b ≡ true
flag_self true = refl
flag_self false = refl

parts_self : (s : Shape) (ps : List KeyPart) → same_parts s s ps ps ≡ true
parts_self s [] = refl
parts_self s (p ∷ ps) = and_both _ _ (and_both _ _ (bytes_self (column_at s p.column).name) (flag_self p.descending)) (parts_self s ps)

index_self : (s : Shape) (j : Index) → same_index s s j j ≡ true
index_self s j = and_both _ _ (and_both _ _ (kind_self j.kind) (flag_self j.«unique»)) (parts_self s j.parts)

free_names : (columns : ℕ) (n : List ℕ) (is : List Index) → n ≡ codes "id" → list_all (is_declared_index columns) is ≡ true
    → list_any (λ other. bytes_eq n other) (map (λ j. j.name) is) ≡ false
free_names columns n [] e h = refl
free_names columns n (j ∷ is) e h =
    let free : bytes_eq j.name (codes "id") ≡ false = not_true _ (and_parts _ _ (and_parts _ _ (and_parts _ _ h).0).0).1 in
    let other : bytes_eq n j.name ≡ false =
    turned (bytes_eq n j.name)
    (λ t. absurd (false≢true (sym free ∙ (bytes_eq-Decides j.name (codes "id")).1 (sym ((bytes_eq-Decides n j.name).0 t) ∙ e)))) in
    or_neither _ _ other (free_names columns n is e (and_parts _ _ h).1)
  where
    turned : (b : Bool) → (b ≡ true → b ≡ false) → b ≡ false
    turned true f = f refl
    turned false f = refl

    or_neither : (a b : Bool) → a ≡ false → b ≡ false → (a || b) ≡ false
    or_neither true b e f = e
    or_neither false b e f = f

indexes_distinct : (columns : ℕ) (is : List Index) → are_indexes columns is ≡ true → are_distinct (map (λ j. j.name) is) ≡ true
indexes_distinct columns [] h = refl
indexes_distinct columns (i ∷ is) h =
    let all = and_parts _ _ h in
    let counted = and_parts _ _ all.0 in
    let first = and_parts _ _ counted.0 in
    let id : i.name ≡ codes "id" = (bytes_eq-Decides _ _).0 (and_parts _ _ (and_parts _ _ (and_parts _ _ first.0).0).0).0 in
    and_both _ _ (ap not (free_names columns i.name is id first.1)) all.1

kept_same : (s : Shape) (k : ℕ) → is_schema s ≡ true → k < length s.indexes → kept_index s s (index_at s k) ≡ Some k
kept_same s k h within =
    ap (λ o. option_and_then (λ x. cond (same_index s s (index_at s x) (index_at s k)) (Some x) None) o)
    (found (λ (j : Index). j.name) s.indexes k _ (indexes_distinct (length s.columns) s.indexes (and_parts _ _ (and_parts _ _ h).0).1) within)
    ∙ ap (λ b. cond b (Some k) None) (index_self s (index_at s k))

lists_same : (s : Shape) (t : Table) → is_schema s ≡ true → IsTable s t → map (reshaped_list s s t) s.indexes ≡ t.lists
lists_same s t h is =
    by_places (reshaped_list s s t) s.indexes t.lists _ [] is.one_each
    (λ k within. ap (λ o. option_map_or (list_of t) o (map (λ r. r.0) t.rows)) (kept_same s k h within))

with_same : (t : Table) (rows : List Row) (lists : List (List ℕ)) → rows ≡ t.rows → lists ≡ t.lists → record t { rows = rows; lists = lists } ≡ t
with_same t rows lists e f = ap (λ rs. record t { rows = rs; lists = lists }) e ∙ ap (λ ls. record t { lists = ls }) f

pub reshaped_to_same : ReshapedToSame
reshaped_to_same s t h is fit = with_same t _ _ (rows_same s t.rows h fit) (lists_same s t h is)
