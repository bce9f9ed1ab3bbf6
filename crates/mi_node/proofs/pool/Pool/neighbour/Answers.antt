-- What is stored has that neighbour.
use Rattle.mi_node.proofs.MapLemmas.{slot_seen}
use Rattle.mi_node.proofs.pool.Pool.neighbour.Goals as goal

pub stored-requires-clause-slot : goal.stored-requires-clause-slot
stored-requires-clause-slot g c = slot_seen c.self.inside.storage c.self.view_is c.requires.slot
