-- New chains have no nodes, through a slot that the pool has.
use Rattle.std.proofs.Common.{◌<◌, arith}
use Rattle.mi_node.proofs.EntryLemmas.{slot_counts}
use Rattle.test_storage.specs.Numbered.{number_keying}
use Rattle.mi_chain.proofs.CallLemmas.{new_chains}
use Rattle.test_storage.proofs.tests.chains.three.three_of_one_key.Goals as goal

pub fill-requires-clause-chained : goal.fill-requires-clause-chained
fill-requires-clause-chained g c =
    let fits : 1 < c.take_three-nodes.new.pool.slots = grind (arith, slot_counts) in
    new_chains c.no_chains-chains.result 1 _ number_keying c.take_three-nodes.new.pool c.no_chains-chains.ensures fits
