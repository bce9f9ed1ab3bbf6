-- The first node past a probe.
use Rattle.mi_order.specs.Orders.{stored_order, stored_tag}
use Rattle.mi_index.proofs.look.bound_in_tree.Goals as goal

pub upper-requires : goal.upper-requires
upper-requires c = rw c.new-pool.ensures.pool c.requires

pub lower-requires : goal.lower-requires
lower-requires c = rw c.new-pool.ensures.pool c.requires

pub returns-then-is_upper-clause-node : goal.returns-then-is_upper-clause-node
returns-then-is_upper-clause-node c = rw (c.if-is_upper.true, ← c.new-pool.ensures.pool) c.upper.ensures.node

pub returns-then-is_upper-clause-steps : goal.returns-then-is_upper-clause-steps
returns-then-is_upper-clause-steps c =
    let o = c.args.tree.now.order in rw (← c.new-pool.ensures.pool) (c.upper.ensures.steps (stored_order o.parts) (stored_tag o.types o.parts))

pub returns-else-is_upper-clause-node : goal.returns-else-is_upper-clause-node
returns-else-is_upper-clause-node c = rw (c.if-is_upper.false, ← c.new-pool.ensures.pool) c.lower.ensures.node

pub returns-else-is_upper-clause-steps : goal.returns-else-is_upper-clause-steps
returns-else-is_upper-clause-steps c =
    let o = c.args.tree.now.order in rw (← c.new-pool.ensures.pool) (c.lower.ensures.steps (stored_order o.parts) (stored_tag o.types o.parts))
