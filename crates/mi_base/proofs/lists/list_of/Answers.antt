-- The items of an array are those of the list that it is.
use Rattle.std.proofs.Common.{◌∙◌, ap, Some}
use Rattle.serde_json.specs.View.{items_view}
use Rattle.mi_base.specs.Base.{list_data}
use Rattle.mi_base.proofs.ArrayLemmas.{array_is, list_found}
use Rattle.mi_base.proofs.lists.list_of.Goals as goal

pub returns-in-Some : goal.returns-in-Some
returns-in-Some c =
    list_found _ _ _ (ap (λ vs. Some (items_view vs)) c.as_slice.ensures.value ∙ c.in-Some.ensures) c.numbers_in.ensures

pub returns-in-None : goal.returns-in-None
unfolding list_data
returns-in-None c = λ ids e. absurd (array_is _ _ c.in-None.ensures e)
