-- The node of a rank is held.
use Rattle.test_storage.specs.Keyed.{keyed_order}
use Rattle.test_storage.proofs.StockLemmas.{tree_read, nth_held}
use Rattle.test_storage.proofs.tests.trees.stock.Stock.nth.Goals as goal

pub nth-node-requires : goal.nth-node-requires
nth-node-requires c = let h = c.self.invariant in (keyed_order, _, h.rs, tree_read h c.new.ensures.pool)

pub id_of-requires : goal.id_of-requires
id_of-requires c = let h = c.self.invariant in nth_held h _ (c.nth-node.ensures.node keyed_order _ h.rs (tree_read h c.new.ensures.pool))
