use Rattle.mi_tree.specs.BinaryTree.{height_at}
use Rattle.mi_tree.proofs.walk.+go_down.Given as goal

abbrev pub decreases-go_down : goal.decreases-go_down
decreases-go_down g l = height_at l.p.now.pool l.slot l.at
