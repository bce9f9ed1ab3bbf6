-- The higher side is the one that rotates.
use Rattle.std.proofs.Common.{◌+◌, ◌<◌, arith}
use Rattle.mi_tree.specs.BinaryTree.{height}
use Rattle.mi_tree.proofs.balance.rotate.Goals as goal

pub rotate_right-requires-clause-sides : goal.rotate_right-requires-clause-sides
rotate_right-requires-clause-sides g c =
    let w = c.requires.sides in let a = w.3 in let b = w.4 in
    let more : height w.1 + 1 < height w.0 = omega (arith, c.requires.apart, c.if-left-right.true) in (w.0, w.1, w.2, b, more)

pub rotate_left-requires-clause-sides : goal.rotate_left-requires-clause-sides
rotate_left-requires-clause-sides g c =
    let w = c.requires.sides in let a = w.3 in let b = w.4 in
    let more : height w.0 + 1 < height w.1 = omega (arith, c.requires.apart, c.if-left-right.false) in (w.0, w.1, w.2, a, more)

pub returns-then-left-right-clause-tree : goal.returns-then-left-right-clause-tree
returns-then-left-right-clause-tree g c l q h a b =
    let more : height q + 1 < height l = omega (arith, c.requires.apart, c.if-left-right.true) in c.rotate_right.ensures.tree l q h b more

pub returns-else-left-right-clause-tree : goal.returns-else-left-right-clause-tree
returns-else-left-right-clause-tree g c l q h a b =
    let more : height l + 1 < height q = omega (arith, c.requires.apart, c.if-left-right.false) in c.rotate_left.ensures.tree l q h a more
