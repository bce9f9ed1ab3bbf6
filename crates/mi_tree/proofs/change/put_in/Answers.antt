-- The path down ends where the node belongs, and the climb puts it there with all heights right.
use Rattle.std.proofs.Common.{None, Some, [], sym}
use Rattle.mi_tree.specs.BinaryTree.{Fork, Tip}
use Rattle.mi_tree.proofs.BinaryTreeLemmas.{height-root}
use Rattle.mi_tree.proofs.PathLemmas.{falls_start, climbs_start, has_put}
use Rattle.mi_tree.proofs.change.put_in.Goals as goal

pub descend_insert-depth-requires-clause-way : goal.descend_insert-depth-requires-clause-way
descend_insert-depth-requires-clause-way g c =
    let w = c.requires.tree in ([], w.0, falls_start w.1 w.2)

pub climb-requires-clause-high : goal.climb-requires-clause-high
climb-requires-clause-high g c =
    let w = c.requires.tree in
    let far = c.descend_insert-depth.ensures.way [] w.0 (falls_start w.1 w.2) in
    sym (height-root c.descend_insert-depth.new.p c.args.slot (Some c.args.node) (Fork Tip c.args.node Tip) far.1.alone)

pub climb-requires-clause-way : goal.climb-requires-clause-way
climb-requires-clause-way g c =
    let w = c.requires.tree in
    let far = c.descend_insert-depth.ensures.way [] w.0 (falls_start w.1 w.2) in
    (far.0, None, 0, Fork Tip c.args.node Tip, climbs_start w.1 far.1)

pub returns-clause-tree : goal.returns-clause-tree
returns-clause-tree g c t h k =
    let far = c.descend_insert-depth.ensures.way [] t (falls_start h k) in
    let all = c.climb.ensures.tree far.0 None 0 (Fork Tip c.args.node Tip) (climbs_start h far.1) in
    (all.0, has_put h far.1 all.1)
