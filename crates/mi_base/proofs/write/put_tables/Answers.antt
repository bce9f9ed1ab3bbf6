-- One table more is written behind those before it.
use Rattle.std.proofs.Common.{arith}
use Rattle.mi_base.proofs.TableLemmas.{put_none, put_more}
use Rattle.mi_base.proofs.write.put_tables.Goals as goal

pub tables-init : goal.tables-init
tables-init g c = put_none _ _ _

pub tables-preserved : goal.tables-preserved
tables-preserved g c =
    put_more c.args.catalog.now.tables c.args.images.now c.tables.table _ _ c.index-images-table.result _ _ _ _ _ _ (omega arith) c.requires c.table.ensures c.index-images-table.is
    c.tables.invariant c.in_ok-put_image.ensures
