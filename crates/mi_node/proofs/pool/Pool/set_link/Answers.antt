-- The slot is one that the pool's nodes have.
use Rattle.mi_node.proofs.MapLemmas.{slot_seen}
use Rattle.mi_node.proofs.pool.Pool.set_link.Goals as goal

pub set_link-requires-clause-slot : goal.set_link-requires-clause-slot
set_link-requires-clause-slot g c = slot_seen c.self.inside.storage c.self.view_is c.requires.slot
