-- The lower node gets its sides first, then the upper one gets it.
use Rattle.mi_tree.specs.BinaryTree.{Fork}
use Rattle.mi_tree.proofs.JoinLemmas.{down_low, down_upper, fork_counted}
use Rattle.mi_tree.proofs.parts.set_down.Goals as goal

pub set_fork-requires-clause-parts : goal.set_fork-requires-clause-parts
set_fork-requires-clause-parts g c = let w = c.requires.parts in (w.1, w.2, fork_counted (down_low w.3.three) w.3.low)

pub set_fork-requires-2-clause-parts : goal.set_fork-requires-2-clause-parts
set_fork-requires-2-clause-parts g c =
    let w = c.requires.parts in let e = c.set_fork.ensures in
    (w.0, Fork w.1 c.args.y w.2, down_upper w.3 e.keeps e.tags (e.tree w.1 w.2 (fork_counted (down_low w.3.three) w.3.low)))

pub returns-clause-tree : goal.returns-clause-tree
returns-clause-tree g c A B C h =
    let e = c.set_fork.ensures in
    c.set_fork-2.ensures.tree A (Fork B c.args.y C) (down_upper h e.keeps e.tags (e.tree B C (fork_counted (down_low h.three) h.low)))
