-- The path to a rank has what is ahead of it, and a level of the tree for each node on it at most.
use Rattle.std.proofs.Common.{take, drop, subst, arith}
use Rattle.mi_tree.specs.BinaryTree.{height}
use Rattle.mi_tree.specs.Walking.{IsWalk, beyond}
use Rattle.mi_tree.proofs.StandingLemmas.{bound, enters_root}
use Rattle.mi_tree.proofs.tree.Tree.walk.Goals as goal

pub start-requires-clause-tree : goal.start-requires-clause-tree
start-requires-clause-tree g c =
    let w = c.requires in let v = c.args in (height w.3.shape, w.3.shape, enters_root w.3 v.direction)

pub returns-clause-walk : goal.returns-clause-walk
returns-clause-walk g c order tag rs h =
    let v = c.args in let m = v.p.now.pool in
    let on = c.start.ensures.walk (height h.shape) h.shape (enters_root h v.direction) in (
      height h.shape,
      subst (λ k. IsWalk c.start.result m (height h.shape) (beyond v.direction (take v.passed k) (drop v.passed k))) h.nodes_are on,
      λ b f. bound h b f,
    )

pub returns-clause-reads : goal.returns-clause-reads
returns-clause-reads g c order tag rs h b f =
    let i = c.start.ensures.reads (height h.shape) h.shape (enters_root h c.args.direction) in let d = bound h b f in
    omega arith
