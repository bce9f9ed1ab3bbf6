-- The record that the row has is that of its node.
use Rattle.std.proofs.Common.{ap, sym, ◌∙◌, subst}
use Rattle.mi_container.specs.declared.inverse.RowRef.{RowRef as Row}
use Rattle.mi_multi.specs.Changed.{changed_keys}
use Rattle.mi_multi.specs.Columns.{AreFirst}
use Rattle.mi_multi.proofs.PutCallLemmas.{row_held, marks_are}
use Rattle.mi_multi.proofs.multi.MultiIndex.changed_by.Goals as goal

pub value-requires : goal.value-requires
value-requires c =
    let row : Row = record { id = c.args.id; node = c.args.node } in
    row_held c.self.inside c.self.invariant c.args.self.now c.self.view_is row c.requires

pub changed_keys-requires-clause-columns : goal.changed_keys-requires-clause-columns
changed_keys-requires-clause-columns c =
    subst (λ ms. AreFirst ms c.value.result.now.row c.args.row.now) (sym c.as_slice.ensures.value) c.changed_columns-columns.ensures

pub returns : goal.returns
returns c =
    let row : Row = record { id = c.args.id; node = c.args.node } in
    c.changed_keys.ensures ∙ ap (λ is. changed_keys is c.value.result.now.row c.args.row.now) c.indexes.ensures
    ∙ marks_are c.self.inside c.self.invariant c.args.self.now c.self.view_is row c.requires c.value.result.now c.value.ensures c.args.row.now
