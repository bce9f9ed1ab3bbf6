-- The parts of the new table are the definition's.
use Rattle.std.proofs.Common.{◌∙◌}
use Rattle.mi_reshape.proofs.RowLemmas.{made_are}
use Rattle.mi_reshape.proofs.reshape.put_table.Goals as goal

pub returns : goal.returns
returns c =
    let rows =
    made_are c.args.from.now c.args.to.now _ _ _ _ c.in_ok-put_rows.ensures (c.as_slice.ensures.value ∙ c.in_ok-sources.ensures) c.as_slice-2.ensures.value in
    let lists = c.in_ok-put_lists.ensures in
    cc
