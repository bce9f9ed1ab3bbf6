-- The pool is as it was, so the tree stands in it.
use Rattle.std.proofs.Common.{sym, subst, take, drop}
use Rattle.test_storage.specs.Keyed.{keyed_order}
use Rattle.mi_tree.specs.Walking.{IsWalk, beyond}
use Rattle.test_storage.proofs.StockLemmas.{tree_read}
use Rattle.test_storage.proofs.tests.trees.stock.Stock.walk.Goals as goal

pub walk-walk-requires : goal.walk-walk-requires
walk-walk-requires c = let h = c.self.invariant in (keyed_order, _, h.rs, tree_read h c.new-read.ensures.pool)

pub three_of-requires-clause-walk : goal.three_of-requires-clause-walk
three_of-requires-clause-walk c =
    let h = c.self.invariant in let w = c.walk-walk.ensures.walk keyed_order _ h.rs (tree_read h c.new-read.ensures.pool) in
    let us = beyond c.args.direction (take c.args.passed h.rs) (drop c.args.passed h.rs) in
    (w.0, us, subst (λ z. IsWalk c.walk-walk.result z w.0 us) (sym c.walk-walk.ensures.pool) w.1)
