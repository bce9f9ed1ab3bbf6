-- The tree stands in the pool that is read.
use Rattle.test_storage.proofs.StockLemmas.{tree_read}
use Rattle.test_storage.proofs.tests.trees.stock.Stock.lower_rank.Goals as goal

pub lower_rank-requires : goal.lower_rank-requires
lower_rank-requires c = let h = c.self.invariant in (h.rs, tree_read h c.new.ensures.pool)
