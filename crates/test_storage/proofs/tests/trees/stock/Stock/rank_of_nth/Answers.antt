-- The node of a rank stands in the tree, so it has a rank.
use Rattle.test_storage.specs.Keyed.{keyed_order}
use Rattle.test_storage.proofs.StockLemmas.{tree_read, nth_stands}
use Rattle.test_storage.proofs.tests.trees.stock.Stock.rank_of_nth.Goals as goal

pub nth-requires : goal.nth-requires
nth-requires c = let h = c.self.invariant in (keyed_order, _, h.rs, tree_read h c.new-read.ensures.pool)

pub rank-requires : goal.rank-requires
rank-requires c =
    let h = c.self.invariant in let i = nth_stands h _ c.new-read.ensures.pool c.nth.ensures.pool (c.nth.ensures.node keyed_order _ h.rs) c.in-Some.is in
    (i.xs, i.ys, i.tree)
