-- The node of a rank stands in the tree, so it can be taken out.
use Rattle.std.proofs.Common.{sym, subst}
use Rattle.test_storage.specs.Keyed.{keyed_order}
use Rattle.test_storage.specs.Stock.{IsStock}
use Rattle.test_storage.proofs.StockLemmas.{tree_read, nth_stands, pulled}
use Rattle.test_storage.proofs.tests.trees.stock.Stock.pull.Goals as goal

pub nth-requires : goal.nth-requires
nth-requires c = let h = c.self.invariant in (keyed_order, _, h.rs, tree_read h c.new.ensures.pool)

pub remove-requires : goal.remove-requires
remove-requires c =
    let h = c.self.invariant in let e = c.new.ensures.pool in let i = nth_stands h _ e (sym e) (c.nth.ensures.node keyed_order _ h.rs) c.in-Some.is in
    (i.xs, i.ys, i.tree)

pub invariant_of-self : goal.invariant_of-self
invariant_of-self c =
    let h = c.self.invariant in let e = c.new.ensures.pool in let i = nth_stands h _ e (sym e) (c.nth.ensures.node keyed_order _ h.rs) c.in-Some.is in
    let stock = pulled _ h i.xs i.ys i.is (c.remove.ensures.tree i.xs i.ys i.tree) (c.remove.ensures.keeps i.xs i.ys i.tree) c.remove.ensures.tags
    c.remove.ensures.slot _ c.push.ensures.items in
    subst (λ o. IsStock o.tagged c.remove.new.self c.remove.new.p c.push.new.self.items c.self.inside.next) (sym c.remove.ensures.order) stock
