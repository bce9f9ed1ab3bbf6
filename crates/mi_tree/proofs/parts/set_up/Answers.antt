-- The lower node gets its sides first, then the upper one gets it.
use Rattle.mi_tree.specs.BinaryTree.{Fork}
use Rattle.mi_tree.proofs.JoinLemmas.{up_low, up_upper, fork_counted}
use Rattle.mi_tree.proofs.parts.set_up.Goals as goal

pub set_fork-requires-clause-parts : goal.set_fork-requires-clause-parts
set_fork-requires-clause-parts g c = let w = c.requires.parts in (w.0, w.1, fork_counted (up_low w.3.three) w.3.low)

pub set_fork-requires-2-clause-parts : goal.set_fork-requires-2-clause-parts
set_fork-requires-2-clause-parts g c =
    let w = c.requires.parts in let e = c.set_fork.ensures in
    (Fork w.0 c.args.x w.1, w.2, up_upper w.3 e.keeps e.tags (e.tree w.0 w.1 (fork_counted (up_low w.3.three) w.3.low)))

pub returns-clause-tree : goal.returns-clause-tree
returns-clause-tree g c A B C h =
    let e = c.set_fork.ensures in
    c.set_fork-2.ensures.tree (Fork A c.args.x B) C (up_upper h e.keeps e.tags (e.tree A B (fork_counted (up_low h.three) h.low)))
