use Rattle.mi_tree.specs.BinaryTree.{height_at}
use Rattle.mi_tree.proofs.path.+descend_insert.Given as goal

abbrev pub decreases-descend_insert : goal.decreases-descend_insert
decreases-descend_insert g l = height_at l.p.now l.slot l.at
