-- The edits so far are those of the cells that were gone over.
use Rattle.std.proofs.Common.{refl}
use Rattle.mi_value.specs.declared.refusal.Refusal.TheVariants.{Row}
use Rattle.mi_embed.specs.EditCells.{edit_in, edits_in}
use Rattle.mi_embed.proofs.ReadLemmas.{is_made, read_more, read_none, refused_all}
use Rattle.mi_embed.proofs.edits.edits_of.Goals as goal

pub cells-preserved : goal.cells-preserved
cells-preserved c =
    let bytes = c.args.texts.now in
    read_more (edit_in bytes) (edits_in bytes) (λ e es. refl) c.args.cells.now c.cells.cell-index _ c.cells.edits.items c.push.new.self.items
    c.in_ok-edit_of.field-0 c.cells-test.true c.in_ok-push.ensures.items (is_made Row _ c.in_ok-edit_of.ensures) c.cells.invariant

pub returns-in_err-edit_of : goal.returns-in_err-edit_of
returns-in_err-edit_of c =
    let bytes = c.args.texts.now in
    refused_all c.from_residual-in_err-edit_of.result _ c.in_err-edit_of.field-0.0 Row _ (edits_in bytes c.args.cells.now)
    c.from_residual-in_err-edit_of.ensures.1
    (read_none (edit_in bytes) (edits_in bytes) (λ e es. refl) c.args.cells.now c.cells.cell-index _ c.cells.edits.items c.cells-test.true c.cells.invariant)
    c.in_err-edit_of.ensures
