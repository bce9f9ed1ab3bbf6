-- The items of an array are those of the row that it is.
use Rattle.std.proofs.Common.{◌∷◌, map, ◌∙◌, ap, Some}
use Rattle.serde_json.specs.Data.{number, unsigned}
use Rattle.serde_json.specs.View.{items_view}
use Rattle.mi_base.specs.Base.{row_data, value_data}
use Rattle.mi_base.proofs.ArrayLemmas.{array_is, row_found}
use Rattle.mi_base.proofs.rows.row_of.Goals as goal

pub returns-in-Some-clause-exact : goal.returns-in-Some-clause-exact
returns-in-Some-clause-exact c =
    row_found _ _ _ _ (ap (λ vs. Some (items_view vs)) c.as_slice.ensures.value ∙ c.in-Some.ensures) c.row_in.ensures.exact

pub returns-in-None-clause-exact : goal.returns-in-None-clause-exact
unfolding row_data
returns-in-None-clause-exact c = λ r e fits. absurd (array_is _ (number (unsigned r.0) ∷ map value_data r.1) c.in-None.ensures e)
