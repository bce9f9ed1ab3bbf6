-- What is stored is as it was but for the size.
use Rattle.mi_node.proofs.MapLemmas.{slot_seen}
use Rattle.mi_node.proofs.pool.Pool.set_size.Goals as goal

pub stored-cell-requires-clause-slot : goal.stored-cell-requires-clause-slot
stored-cell-requires-clause-slot g c = slot_seen c.self.inside.storage c.self.view_is c.requires.slot

pub store-requires-clause-slot : goal.store-requires-clause-slot
store-requires-clause-slot g c = slot_seen c.self.inside.storage c.self.view_is c.requires.slot
