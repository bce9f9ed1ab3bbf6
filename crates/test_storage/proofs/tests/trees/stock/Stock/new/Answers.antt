-- A new tree has no nodes, through a slot that the pool has.
use Rattle.test_storage.proofs.StockLemmas.{stock_new}
use Rattle.test_storage.proofs.tests.trees.stock.Stock.new.Goals as goal

pub invariant_of-result : goal.invariant_of-result
invariant_of-result c = stock_new c.new.result.order.tagged c.new.result c.with_slots.result
    c.new-2.result.items c.new.ensures.root c.new.ensures.slot c.with_slots.ensures c.new-2.ensures.items
