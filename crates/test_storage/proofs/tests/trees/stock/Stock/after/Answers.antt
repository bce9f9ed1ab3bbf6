-- The node of a rank stands in the tree, so it has a next one or is the last.
use Rattle.test_storage.specs.Keyed.{keyed_order}
use Rattle.test_storage.proofs.StockLemmas.{tree_read, nth_stands, after_held}
use Rattle.test_storage.proofs.tests.trees.stock.Stock.after.Goals as goal

pub nth-requires : goal.nth-requires
nth-requires c = let h = c.self.invariant in (keyed_order, _, h.rs, tree_read h c.new-read.ensures.pool)

pub next-after-requires : goal.next-after-requires
next-after-requires c =
    let h = c.self.invariant in let i = nth_stands h _ c.new-read.ensures.pool c.nth.ensures.pool (c.nth.ensures.node keyed_order _ h.rs) c.in-Some.is in
    (i.xs, i.ys, i.tree)

pub id_of-requires : goal.id_of-requires
id_of-requires c =
    let h = c.self.invariant in let i = nth_stands h _ c.new-read.ensures.pool c.nth.ensures.pool (c.nth.ensures.node keyed_order _ h.rs) c.in-Some.is in
    after_held h i (c.next-after.ensures.node i.xs i.ys i.tree)
