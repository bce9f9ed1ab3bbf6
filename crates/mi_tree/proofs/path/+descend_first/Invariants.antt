use Rattle.std.proofs.Common.{Some}
use Rattle.mi_tree.specs.BinaryTree.{height_at}
use Rattle.mi_tree.proofs.path.+descend_first.Given as goal

abbrev pub decreases-descend_first : goal.decreases-descend_first
decreases-descend_first g l = height_at l.p.now l.slot (Some l.at)
