use Rattle.mi_tree.specs.BinaryTree.{height_at}
use Rattle.mi_tree.proofs.walk.+seek_down.Given as goal

abbrev pub decreases-seek_down : goal.decreases-seek_down
decreases-seek_down g l = height_at l.p.now.pool l.slot l.at
