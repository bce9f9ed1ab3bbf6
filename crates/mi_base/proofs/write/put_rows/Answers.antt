-- One more is written behind those before it.
use Rattle.std.proofs.Common.{arith}
use Rattle.mi_base.specs.Base.{row_data}
use Rattle.mi_base.proofs.LineLemmas.{puts_none, puts_more}
use Rattle.mi_base.proofs.write.put_rows.Goals as goal

pub rows-init : goal.rows-init
rows-init g c = puts_none _ _

pub rows-preserved : goal.rows-preserved
rows-preserved g c =
    puts_more row_data c.args.rows.now c.rows.row-index c.row-item.result _ _ _ _ _ _ (omega arith) c.row-item.is c.rows.invariant c.in_ok-put_row.ensures
