-- The tree stands in the pool that is read.
use Rattle.test_storage.proofs.StockLemmas.{tree_read}
use Rattle.test_storage.proofs.tests.trees.stock.Stock.upper_rank.Goals as goal

pub upper_rank-requires : goal.upper_rank-requires
upper_rank-requires c = let h = c.self.invariant in (h.rs, tree_read h c.new.ensures.pool)
