-- One table more.
use Rattle.mi_reshape.specs.Catalogs.{lost_of}
use Rattle.mi_reshape.proofs.RangeLemmas.{one_more_alone}
use Rattle.mi_reshape.proofs.lost.dropped.Goals as goal

pub loop-table-preserved : goal.loop-table-preserved
loop-table-preserved c = one_more_alone (lost_of c.args.from.now c.args.to.now) c.loop-table.table _ _ c.in_ok-add_table.ensures c.loop-table.invariant
