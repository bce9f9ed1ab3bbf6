use Rattle.mi_tree.specs.BinaryTree.{height_at}
use Rattle.mi_tree.proofs.path.+descend_to.Given as goal

abbrev pub decreases-descend_to : goal.decreases-descend_to
decreases-descend_to g l = height_at l.p.now l.slot l.at
