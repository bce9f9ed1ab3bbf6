-- A new node has a stamp above all others.
use Rattle.std.proofs.Common.{◌<◌, ◌+◌, sym, subst, arith}
use Rattle.test_storage.specs.Stock.{IsStock}
use Rattle.test_storage.proofs.StockLemmas.{tree_added, may_add, has_added}
use Rattle.test_storage.proofs.tests.trees.stock.Stock.add.Goals as goal

pub insert-requires : goal.insert-requires
insert-requires c =
    let h = c.self.invariant in let ok = c.in-Ok.ensures in let room : c.self.inside.next < 1000000 = omega (arith, c.if-self-ge1000000.false) in
    (h.rs, tree_added _ _ h ok.ok ok.free room, may_add _ _ h ok.ok ok.free room)

pub invariant_of-self-2 : goal.invariant_of-self-2
invariant_of-self-2 c =
    let h = c.self.invariant in let ok = c.in-Ok.ensures in let room : c.self.inside.next < 1000000 = omega (arith, c.if-self-ge1000000.false) in
    let e = c.insert.ensures in let tree = tree_added _ _ h ok.ok ok.free room in let new = may_add _ _ h ok.ok ok.free room in let w = e.tree h.rs tree new in
    let stock = has_added _ _ h ok.ok ok.free room c.insert.new.self c.insert.new.p w.0 w.1 w.2 (e.keeps h.rs tree new) e.stamp e.tags e.slot in
    subst (λ o. IsStock o.tagged c.insert.new.self c.insert.new.p c.self.inside.out.items (c.self.inside.next + 1)) (sym e.order) stock
