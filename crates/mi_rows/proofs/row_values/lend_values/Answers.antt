-- The first value has the id, and the values of the row are left.
use Rattle.std.proofs.Common.{◌++◌, ◌∷◌, map, ap, ap₂, ◌∙◌, refl, arith}
use Rattle.std.proofs.lemmas.List.{take_more_set}
use Rattle.mi_rows.specs.Labels.{held}
use Rattle.mi_rows.proofs.row_values.lend_values.Goals as goal

pub row_values-init : goal.row_values-init
row_values-init c = (
  ap (λ row_values. map held row_values ++ c.values-values.result) (take_more_set c.args.row_values.now 0 c.in-Some.number (omega arith))
      ∙ ap₂ (λ v vs. v ∷ vs) c.in-Some.ensures c.values-values.ensures.all,
  omega arith,
  refl,
)
