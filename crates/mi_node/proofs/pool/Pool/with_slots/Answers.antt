-- New places are no nodes.
use Rattle.mi_node.proofs.pool.Pool.with_slots.Goals as goal

pub returns : goal.returns
returns g c = c.new.ensures.nodes
