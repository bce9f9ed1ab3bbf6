-- Each id of the list is there.
use Rattle.mi_plain.proofs.BoundaryLemmas.{listed}
use Rattle.mi_plain.proofs.PassLemmas.{there_is}
use Rattle.mi_plain.proofs.table.PlainTable.first_of.Goals as goal

pub compare_to_id-requires : goal.compare_to_id-requires
compare_to_id-requires c =
    there_is c.args.self.now _ c.ids-ids.result.now c.loop-id.id-index 0 c.ids-ids.ensures
    (listed c.args.schema.now c.args.self.now c.args.x c.requires.is c.requires.within) c.loop-id-test.true
