-- Edits that fit, of which no two are of one column.
use Rattle.std.proofs.Common.{◌∙◌, sym, ap, ap₂}
use Rattle.std.specs.List.{list_all}
use Rattle.mi_catalog.specs.Fits.{fits_edit}
use Rattle.mi_embed.specs.EditCells.{edit_each_once}
use Rattle.mi_embed.proofs.EditLemmas.{names_each_once}
use Rattle.mi_embed.proofs.edits.edits_for.Goals as goal

pub returns-then-edit_each_once-clause-fits : goal.returns-then-edit_each_once-clause-fits
returns-then-edit_each_once-clause-fits c = (
  sym (c.if-fit.ensures ∙ ap₂ (λ cs es. list_all (fits_edit cs) es) c.columns-columns.ensures c.as_slice.ensures.value),
  names_each_once _ (sym (c.if-edit_each_once.ensures ∙ ap edit_each_once c.as_slice-then-fit.ensures.value)),
)
