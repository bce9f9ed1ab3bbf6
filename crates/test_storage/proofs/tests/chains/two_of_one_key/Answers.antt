-- New chains have no nodes, through a slot that the pool has.
use Rattle.std.proofs.Common.{◌<◌, arith}
use Rattle.mi_node.proofs.EntryLemmas.{slot_counts, apart_of_free}
use Rattle.test_storage.specs.OneKey.{one_keying}
use Rattle.mi_chain.proofs.CallLemmas.{new_chains}
use Rattle.test_storage.proofs.TakeLemmas.{held_now, held_then}
use Rattle.test_storage.proofs.tests.chains.two_of_one_key.Goals as goal

pub fill-requires-clause-chained : goal.fill-requires-clause-chained
fill-requires-clause-chained g c =
    let fits : 1 < c.take-two.new.pool.slots = grind (arith, slot_counts) in
    new_chains c.no_chains-chains.result 1 _ one_keying c.take-two.new.pool c.no_chains-chains.ensures fits

pub fill-requires-clause-held : goal.fill-requires-clause-held
fill-requires-clause-held g c =
    let two = c.take-two.ensures.pool in (held_then _ _ _ two c.take-two.ensures.free (held_now _ _ _ c.take-one.ensures.pool), held_now _ _ _ two)

pub fill-requires-clause-names : goal.fill-requires-clause-names
fill-requires-clause-names g c =
    apart_of_free c.take-one.new.pool c.take-one.result c.take-two.result (held_now _ _ _ c.take-one.ensures.pool) c.take-two.ensures.free
