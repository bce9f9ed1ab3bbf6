-- Rows that fit the old schema fit the new one.
-- Cited by `laws::reshaped_fits`, `CatalogLemmas`, `ResultLemmas` and `SameLemmas`.
use Rattle.std.proofs.Common.{◌≡◌, ℕ, zero, suc, ◌+◌, ◌<◌, Bool, true, false, cond, List, [], ◌∷◌, map, length, slice_index_or, refl, sym, ◌∙◌, arith}
use Rattle.std.specs.Prelude.{not, ◌&&◌}
use Rattle.std.specs.Option.{option_map_or}
use Rattle.std.specs.List.{AllByRecursion, position_from}
use Rattle.std.specs.declared.option.Option.{Option}
use Rattle.std.specs.declared.option.Option.TheVariants.{None, Some}
use Rattle.std.proofs.lemmas.Bool.{and_parts}
use Rattle.std.proofs.lemmas.Iterator.Adapters.{position_from-zero}
use Rattle.std.proofs.lemmas.List.Quantifiers.{position-Some}
use Rattle.mi_value.specs.declared.value.Value.{Value}
use Rattle.mi_value.specs.declared.value.ColumnType.{ColumnType}
use Rattle.mi_value.specs.declared.value.ColumnType.TheVariants.{Int, Text, Flag}
use Rattle.mi_catalog.specs.declared.index.Column.{Column}
use Rattle.mi_catalog.specs.Shape.{Shape, find_column}
use Rattle.mi_catalog.specs.Key.{Row}
use Rattle.mi_catalog.specs.Fits.{fits_type, fits_record}
use Rattle.mi_reshape.specs.Reshaped.{first_value, reshaped_value, reshaped_row, same_type, column_at, keeps_type, RowsFit, ReshapedFits}

first_fits : (kind : ColumnType) → fits_type kind (first_value kind) ≡ true
first_fits Int = refl
first_fits Text = refl
first_fits Flag = refl

type_fits : (a b : ColumnType) (v : Value) → same_type a b ≡ true → fits_type a v ≡ true → fits_type b v ≡ true
type_fits Int Int v same fits = fits
type_fits Int Text v same fits = absurd (cc)
type_fits Int Flag v same fits = absurd (cc)
type_fits Text Int v same fits = absurd (cc)
type_fits Text Text v same fits = fits
type_fits Text Flag v same fits = absurd (cc)
type_fits Flag Int v same fits = absurd (cc)
type_fits Flag Text v same fits = absurd (cc)
type_fits Flag Flag v same fits = fits

fits_at : (cs : List Column) (vs : List Value) (x : ℕ) (c : Column) (v : Value) → fits_record cs vs ≡ true → x < length cs
    → fits_type (slice_index_or cs x c).kind (slice_index_or vs x v) ≡ true
fits_at [] vs x c v fits within = absurd (omega arith)
fits_at (d ∷ cs) [] x c v fits within = absurd (cc)
fits_at (d ∷ cs) (w ∷ vs) zero c v fits within = (and_parts _ _ fits).0
fits_at (d ∷ cs) (w ∷ vs) (suc x) c v fits within = fits_at cs vs x c v (and_parts _ _ fits).1 (omega arith)

pub and_both : (a b : Bool) → a ≡ true → b ≡ true → (a && b) ≡ true
and_both true b e f = f
and_both false b e f = absurd (cc)

value_fits : (from : Shape) (values : List Value) (kind : ColumnType) (o : Option ℕ) → ((x : ℕ) → o ≡ Some x → x < length from.columns)
    → fits_record from.columns values ≡ true → option_map_or (λ x. same_type (column_at from x).kind kind) o true ≡ true
    → fits_type kind (option_map_or (λ x. slice_index_or values x (first_value kind)) o (first_value kind)) ≡ true
value_fits from values kind None within fits same = first_fits kind
value_fits from values kind (Some x) within fits same = type_fits (column_at from x).kind kind _ same (fits_at from.columns values x _ _ fits (within x refl))

row_fits : (from : Shape) (values : List Value) (cs : List Column) → AllByRecursion (λ c. keeps_type from c ≡ true) cs → fits_record from.columns values ≡ true
    → fits_record cs (map (reshaped_value from values) cs) ≡ true
row_fits from values [] keep fits = refl
row_fits from values (c ∷ cs) keep fits =
    and_both _ _
    (value_fits from values c.kind (find_column from c.name) (λ x is. (position-Some _ from.columns x c is).0) fits keep.0)
    (row_fits from values cs keep.1 fits)

not_first : (b : Bool) (i : ℕ) (o : Option ℕ) → cond (not b) (Some i) o ≡ None → (b ≡ true) × (o ≡ None)
not_first true i o e = (refl, e)
not_first false i o e = absurd (cc)

all_keep : (p : Column → Bool) (i : ℕ) (cs : List Column) → position_from (λ c. not (p c)) i cs ≡ None → AllByRecursion (λ c. p c ≡ true) cs
all_keep p i [] e = tt
all_keep p i (c ∷ cs) e = let first = not_first (p c) i _ e in (first.0, all_keep p (i + 1) cs first.1)

rows_fit : (from to : Shape) (rows : List Row) → AllByRecursion (λ c. keeps_type from c ≡ true) to.columns → RowsFit from rows
    → RowsFit to (map {B = Row} (λ r. (r.0, reshaped_row from to r.1)) rows)
rows_fit from to [] keep fit = tt
rows_fit from to (r ∷ rows) keep fit = (row_fits from r.1 to.columns keep fit.0, rows_fit from to rows keep fit.1)

pub reshaped_fits : ReshapedFits
reshaped_fits from to t none fit =
    rows_fit from to t.rows (all_keep (keeps_type from) 0 to.columns (sym (position_from-zero (λ c. not (keeps_type from c)) to.columns) ∙ none)) fit
