use Rattle.mi_tree.specs.BinaryTree.{height_at}
use Rattle.mi_tree.proofs.walk.+cut_down.Given as goal

abbrev pub decreases-cut_down : goal.decreases-cut_down
decreases-cut_down g l = height_at l.p.now.pool l.slot l.at
