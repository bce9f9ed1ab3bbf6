-- A tree is as long as its list.
use Rattle.mi_index.specs.Orders.{stored_order, stored_tag}
use Rattle.mi_multi.proofs.reading.tree_count.Goals as goal

pub returns : goal.returns
returns c rs h = let t = c.args.tree.now in c.len.ensures (stored_order t.order.parts) (stored_tag t.order.types t.order.parts) rs h
