-- The node that is found is held.
use Rattle.test_storage.proofs.StockLemmas.{tree_read, first_held}
use Rattle.test_storage.proofs.tests.trees.stock.Stock.find.Goals as goal

pub find-node-requires : goal.find-node-requires
find-node-requires c = let h = c.self.invariant in (h.rs, tree_read h c.new.ensures.pool)

pub id_of-requires : goal.id_of-requires
id_of-requires c = let h = c.self.invariant in first_held h _ (c.find-node.ensures.node h.rs (tree_read h c.new.ensures.pool))
