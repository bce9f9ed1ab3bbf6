-- The values so far are those of the cells that were gone over.
use Rattle.std.proofs.Common.{List, [], ◌++◌, ◌+◌, Option, Some, None, map, option_map, drop, length, refl, ap, sym, ◌≡◌, ◌∙◌, arith}
use Rattle.std.proofs.lemmas.List.{drop_more}
use Rattle.mi_value.specs.Lent.{lent}
use Rattle.mi_value.specs.declared.value.Value.{Value}
use Rattle.mi_embed.specs.Cells.{values_in, before_all}
use Rattle.mi_embed.proofs.CellLemmas.{one_more}
use Rattle.mi_embed.proofs.cell.values_of.Goals as goal

in_front_none : (r : Option (List Value)) → option_map (λ vs. [] ++ vs) r ≡ r
in_front_none None = refl
in_front_none (Some vs) = refl

pub cells-init : goal.cells-init
cells-init c = (
  ap length c.new-values.ensures,
  ap (λ front. option_map (λ vs. map lent front ++ vs) (values_in c.args.texts.now c.args.cells.now)) c.new-values.ensures
      ∙ in_front_none (values_in c.args.texts.now c.args.cells.now),
)

pub cells-preserved : goal.cells-preserved
cells-preserved c =
    let cs = c.args.cells.now in let bytes = c.args.texts.now in let i = c.cells.cell-index in let rest = drop (i + 1) cs in
    let front = c.cells.values.items in let others = values_in bytes rest in let first = c.in_ok-value_of.ensures in (
      c.push.ensures.len ∙ ap (λ n. n + 1) c.cells.invariant.0,
      ap (λ items. option_map (λ vs. map lent items ++ vs) others) c.push.ensures.items
          ∙ one_more front c.in_ok-value_of.field-0 others
          ∙ ap (λ o. option_map (λ vs. map lent front ++ vs) (before_all o others)) first
          ∙ sym (ap (λ xs. option_map (λ vs. map lent front ++ vs) (values_in bytes xs)) (drop_more cs i _ (omega arith)))
          ∙ c.cells.invariant.1,
    )
