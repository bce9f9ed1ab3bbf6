-- The ids behind the id, each of them there.
use Rattle.std.proofs.Common.{◌<◌, length, arith}
use Rattle.mi_plain.proofs.BoundaryLemmas.{listed}
use Rattle.mi_plain.proofs.PassLemmas.{there_is}
use Rattle.mi_plain.proofs.ScanLemmas.{next_of_rest, place_within}
use Rattle.mi_plain.proofs.table.PlainTable.next_of.Goals as goal

pub overflow_step-i : goal.overflow_step-i
overflow_step-i c =
    let within : c.place_of-i.result < length c.ids-ids.result.now =
    place_within c.args.self.now _ c.ids-ids.result.now c.args.id c.place_of-i.result c.ids-ids.ensures
    (listed c.args.schema.now c.args.self.now c.args.x c.requires.is c.requires.within) c.requires.id c.place_of-i.ensures in
    omega (arith, within)

pub loop-i-init : goal.loop-i-init
loop-i-init c =
    next_of_rest c.args.schema.now c.args.self.now c.args.x c.args.id c.index-index.result.now c.ids-ids.result.now
    c.place_of-i.result c.requires.kind c.index-index.ensures c.ids-ids.ensures c.place_of-i.ensures
    (listed c.args.schema.now c.args.self.now c.args.x c.requires.is c.requires.within) c.requires.id

pub compare_ids-requires-clause-b : goal.compare_ids-requires-clause-b
compare_ids-requires-clause-b c =
    there_is c.args.self.now _ c.ids-ids.result.now c.loop-i.i 0 c.ids-ids.ensures
    (listed c.args.schema.now c.args.self.now c.args.x c.requires.is c.requires.within) c.loop-i-test.true
