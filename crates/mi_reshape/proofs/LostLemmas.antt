-- One column more of those that are dropped.
-- Cited by `lost::add_columns`.
use Rattle.std.proofs.Common.{◌≡◌, ℕ, ◌+◌, ◌<◌, cond, List, [], ◌∷◌, ◌++◌, length, slice_index_or, ap, ◌∙◌, subst}
use Rattle.std.specs.Option.{is_some}
use Rattle.std.specs.List.{flat_map, range_with_len}
use Rattle.std.specs.declared.option.Option.TheVariants.{Some}
use Rattle.mi_catalog.specs.declared.index.Column.{Column}
use Rattle.mi_catalog.specs.Shape.{Shape, find_column}
use Rattle.mi_reshape.specs.declared.lost.DroppedPart.{DroppedPart}
use Rattle.mi_reshape.specs.Reshaped.{column_at}
use Rattle.mi_reshape.specs.Catalogs.{lost_column}
use Rattle.mi_reshape.proofs.RangeLemmas.{one_more}
use Rattle.mi_reshape.proofs.SameLemmas.{within_any}

abbrev added : ℕ → Shape → ℕ → Column → List DroppedPart
added t to n column = cond (is_some (find_column to column.name)) [] (record { table = t; column = Some n } ∷ [])

pub column_more : (t : ℕ) (from to : Shape) (columns : List Column) (n : ℕ) (column : Column) (made before base : List DroppedPart)
    → columns ≡ from.columns → n < length columns
    → column ≡ slice_index_or columns n column
    → made ≡ before ++ cond (is_some (find_column to column.name)) [] (record { table = t; column = Some n } ∷ [])
    → before ≡ base ++ flat_map (lost_column t from to) (range_with_len 0 n) → made ≡ base ++ flat_map (lost_column t from to) (range_with_len 0 (n + 1))
column_more t from to columns n column made before base all within is e kept =
    let there = subst (λ (cs : List Column). n < length cs) all within in
    let here : column ≡ column_at from n = is ∙ ap (λ cs. slice_index_or cs n column) all ∙ within_any from.columns n column _ there in
    one_more (lost_column t from to) n made before base (e ∙ ap (λ c. before ++ added t to n c) here) kept
