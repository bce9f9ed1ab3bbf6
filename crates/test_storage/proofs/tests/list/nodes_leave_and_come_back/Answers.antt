-- A new list has no nodes, through a slot that the pool has.
use Rattle.std.proofs.Common.{◌<◌, arith}
use Rattle.mi_node.proofs.EntryLemmas.{slot_counts}
use Rattle.mi_list.proofs.FrameLemmas.{listed_new}
use Rattle.test_storage.proofs.tests.list.nodes_leave_and_come_back.Goals as goal

pub fill-requires-clause-listed : goal.fill-requires-clause-listed
fill-requires-clause-listed g c =
    let fits : 1 < c.take_three-nodes.new.pool.slots = grind (arith, slot_counts) in
    listed_new c.new-list.result 1 c.take_three-nodes.new.pool c.new-list.ensures fits
