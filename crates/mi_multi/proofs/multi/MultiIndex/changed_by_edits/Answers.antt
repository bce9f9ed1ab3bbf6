-- The record that the edit changes is that of the row's node.
use Rattle.std.proofs.Common.{◌≡◌, [], Some, length, ap, sym, ◌∙◌, arith}
use Rattle.std.specs.Option.{unwrap_or}
use Rattle.mi_value.specs.Edits.{apply}
use Rattle.mi_model.specs.Table.{row}
use Rattle.mi_container.specs.Data.{as_table}
use Rattle.mi_container.specs.declared.inverse.RowRef.{RowRef as Row}
use Rattle.mi_multi.specs.Columns.{keys_with}
use Rattle.mi_multi.proofs.EditMarkLemmas.{edit_marks, single}
use Rattle.mi_multi.proofs.PutCallLemmas.{row_held, row_got, marks_are}
use Rattle.mi_multi.proofs.multi.MultiIndex.changed_by_edits.Goals as goal

pub value-requires : goal.value-requires
value-requires c =
    let row : Row = record { id = c.args.id; node = c.args.node } in
    row_held c.self.inside c.self.invariant c.args.self.now c.self.view_is row c.requires.live

pub returns : goal.returns
returns c =
    let at : Row = record { id = c.args.id; node = c.args.node } in
    let old = c.value.result.now.row in let new = c.args.row.now in let es = c.args.edits.now in
    let got = row_got c.self.inside c.self.invariant c.args.self.now c.self.view_is at c.requires.live c.value.result.now c.value.ensures in
    let same : (row (as_table c.args.self.now.plain) c.args.id).1 ≡ old = ap (λ o. unwrap_or o []) got in
    let made : apply es old ≡ Some new = ap (apply es) (sym same) ∙ c.requires.made in
    let one : length es ≡ 1 = omega (arith, c.in-len1.len_at_least, c.in-len1.len_below) in
    c.keys_with.ensures
    ∙ (λ i. keys_with (c.column_of.ensures i) (c.changes_column.ensures i) (c.indexes.ensures i))
    ∙ edit_marks c.edit-item.result old new (single es c.edit-item.result old new one c.edit-item.is made) c.self.inside.schema.indexes
    ∙ marks_are c.self.inside c.self.invariant c.args.self.now c.self.view_is at c.requires.live c.value.result.now c.value.ensures new
