-- New chains have no nodes, through a slot that the pool has.
use Rattle.std.proofs.Common.{◌<◌, arith, refl}
use Rattle.mi_node.proofs.EntryLemmas.{slot_counts}
use Rattle.test_storage.specs.Numbered.{number_keying}
use Rattle.mi_chain.proofs.CallLemmas.{new_chains}
use Rattle.test_storage.proofs.tests.chains.rooms.rooms_and_pulls_change_no_list.Goals as goal

pub add_all-names-requires-clause-numbered : goal.add_all-names-requires-clause-numbered
add_all-names-requires-clause-numbered g c =
    let fits : 1 < c.with_slots-p.result.slots = grind (arith, slot_counts) in
    record { chained = new_chains c.no_chains-chains.result 1 _ number_keying c.with_slots-p.result c.no_chains-chains.ensures fits; below = tt; count = refl }
