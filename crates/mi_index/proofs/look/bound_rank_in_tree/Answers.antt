-- How many nodes stand in front of the first past a probe.
use Rattle.mi_order.specs.Orders.{stored_order, stored_tag}
use Rattle.mi_index.proofs.look.bound_rank_in_tree.Goals as goal

pub upper_rank-requires : goal.upper_rank-requires
upper_rank-requires c = rw c.new-pool.ensures.pool c.requires

pub lower_rank-requires : goal.lower_rank-requires
lower_rank-requires c = rw c.new-pool.ensures.pool c.requires

pub returns-then-is_upper-clause-rank : goal.returns-then-is_upper-clause-rank
returns-then-is_upper-clause-rank c = rw (c.if-is_upper.true, ← c.new-pool.ensures.pool) c.upper_rank.ensures.rank

pub returns-then-is_upper-clause-steps : goal.returns-then-is_upper-clause-steps
returns-then-is_upper-clause-steps c =
    let o = c.args.tree.now.order in rw (← c.new-pool.ensures.pool) (c.upper_rank.ensures.steps (stored_order o.parts) (stored_tag o.types o.parts))

pub returns-else-is_upper-clause-rank : goal.returns-else-is_upper-clause-rank
returns-else-is_upper-clause-rank c = rw (c.if-is_upper.false, ← c.new-pool.ensures.pool) c.lower_rank.ensures.rank

pub returns-else-is_upper-clause-steps : goal.returns-else-is_upper-clause-steps
returns-else-is_upper-clause-steps c =
    let o = c.args.tree.now.order in rw (← c.new-pool.ensures.pool) (c.lower_rank.ensures.steps (stored_order o.parts) (stored_tag o.types o.parts))
