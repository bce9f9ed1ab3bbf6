-- The node of a rank stands in the tree, so it can be asked for its place.
use Rattle.std.proofs.Common.{subst}
use Rattle.mi_tree.specs.Standing.{IsTree}
use Rattle.test_storage.specs.Keyed.{keyed_order, keyed_tag}
use Rattle.test_storage.proofs.StockLemmas.{tree_read, nth_stands}
use Rattle.test_storage.proofs.tests.trees.stock.Stock.keeps.Goals as goal

pub nth-requires : goal.nth-requires
nth-requires c = let h = c.self.invariant in (keyed_order, _, h.rs, tree_read h c.new-read.ensures.pool)

pub keeps_place-requires : goal.keeps_place-requires
keeps_place-requires c =
    let h = c.self.invariant in let i = nth_stands h _ c.new-read.ensures.pool c.nth.ensures.pool (c.nth.ensures.node keyed_order _ h.rs) c.in-Some.is in
    let t = c.self.inside.tree in
    (i.xs, i.ys, subst (IsTree t c.self.inside.pool keyed_order (keyed_tag t.order.tagged)) i.is h.tree)
