-- One column more, if it is dropped.
use Rattle.mi_reshape.proofs.LostLemmas.{column_more}
use Rattle.mi_reshape.proofs.lost.add_columns.Goals as goal

pub loop-number-preserved : goal.loop-number-preserved
loop-number-preserved c =
    let column = c.index-columns-number in
    column_more c.args.table c.args.from.now c.args.to.now c.columns-columns.result.now c.loop-number.number column.result _ _ _ c.columns-columns.ensures
    c.loop-number-test.true column.is c.in_ok-add_column.ensures c.loop-number.invariant
