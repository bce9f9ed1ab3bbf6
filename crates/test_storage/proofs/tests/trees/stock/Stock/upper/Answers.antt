-- The node that is found is held.
use Rattle.test_storage.proofs.StockLemmas.{tree_read, first_held}
use Rattle.test_storage.proofs.tests.trees.stock.Stock.upper.Goals as goal

pub upper-node-requires : goal.upper-node-requires
upper-node-requires c = let h = c.self.invariant in (h.rs, tree_read h c.new.ensures.pool)

pub id_of-requires : goal.id_of-requires
id_of-requires c = let h = c.self.invariant in first_held h _ (c.upper-node.ensures.node h.rs (tree_read h c.new.ensures.pool))
