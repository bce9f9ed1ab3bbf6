-- The rows of the code's sources are those of the definitions.
-- Cited by `reshape::put_table`.
use Rattle.std.proofs.Common.{◌≡◌, List, [], ◌∷◌, map, refl, ap, ◌∙◌}
use Rattle.mi_value.specs.declared.value.Value.{Value}
use Rattle.mi_catalog.specs.declared.index.Column.{Column}
use Rattle.mi_catalog.specs.Shape.{Shape}
use Rattle.mi_catalog.specs.Key.{Row}
use Rattle.mi_reshape.specs.declared.columns.Source.{Source}
use Rattle.mi_reshape.specs.Reshaped.{source_of, source_value, reshaped_value, reshaped_row}

values_are : (from : Shape) (values : List Value) (cs : List Column) → map (source_value values) (map (source_of from) cs) ≡ map (reshaped_value from values) cs
values_are from values [] = refl
values_are from values (c ∷ cs) = ap (λ vs. reshaped_value from values c ∷ vs) (values_are from values cs)

rows_are : (from to : Shape) (sources : List Source) (rows : List Row) → sources ≡ map (source_of from) to.columns
    → map {B = Row} (λ r. (r.0, map (source_value r.1) sources)) rows ≡ map {B = Row} (λ r. (r.0, reshaped_row from to r.1)) rows
rows_are from to sources [] e = refl
rows_are from to sources (r ∷ rows) e =
    let here : map (source_value r.1) sources ≡ reshaped_row from to r.1 = ap (map (source_value r.1)) e ∙ values_are from r.1 to.columns in
    let rest = rows_are from to sources rows e in
    cc

-- the rows that the code makes from its sources are the reshaped rows
pub made_are : (from to : Shape) (made rows old : List Row) (sources : List Source) → made ≡ map {B = Row} (λ r. (r.0, map (source_value r.1) sources)) rows
    → sources ≡ map (source_of from) to.columns → rows ≡ old → made ≡ map {B = Row} (λ r. (r.0, reshaped_row from to r.1)) old
made_are from to made rows old sources e s r = e ∙ rows_are from to sources rows s ∙ ap (map {B = Row} (λ q. (q.0, reshaped_row from to q.1))) r
