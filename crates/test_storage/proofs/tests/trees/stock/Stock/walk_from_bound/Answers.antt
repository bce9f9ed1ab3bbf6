-- The pool is as it was, so the tree stands in it.
use Rattle.std.proofs.Common.{◌≡◌, ℕ, List, sym, subst}
use Rattle.mi_node.specs.Pool.{Pooled}
use Rattle.mi_node.specs.Refs.{Ref}
use Rattle.mi_tree.specs.Walking.{IsWalk}
use Rattle.mi_tree.specs.declared.walk.Walk.{Walk}
use Rattle.test_storage.proofs.StockLemmas.{tree_read}
use Rattle.test_storage.proofs.tests.trees.stock.Stock.walk_from_bound.Goals as goal

walk_read : {T : Type 0} {w : Walk} {m n : Pooled T} {levels : ℕ} {us : List Ref} → n ≡ m → IsWalk w m levels us
    → (l : ℕ) × (rs : List Ref) × IsWalk w n l rs
walk_read {T} {w} {levels = levels} {us = us} same h = (levels, us, subst (λ (z : Pooled T). IsWalk w z levels us) (sym same) h)

pub walk_from_bound-walk-requires : goal.walk_from_bound-walk-requires
walk_from_bound-walk-requires c = let h = c.self.invariant in (h.rs, tree_read h c.new-read.ensures.pool)

pub three_of-requires-clause-walk : goal.three_of-requires-clause-walk
three_of-requires-clause-walk c =
    let h = c.self.invariant in walk_read c.walk_from_bound-walk.ensures.pool (c.walk_from_bound-walk.ensures.walk h.rs (tree_read h c.new-read.ensures.pool)).1
