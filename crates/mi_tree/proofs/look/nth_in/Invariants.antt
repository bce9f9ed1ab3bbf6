use Rattle.std.proofs.Common.{◌≡◌}
use Rattle.mi_tree.specs.BinaryTree.{height_at}
use Rattle.mi_tree.proofs.LookUpLemmas.{Carrying}
use Rattle.mi_tree.proofs.look.nth_in.Given as goal

abbrev pub invariant-loop-at : goal.invariant-loop-at
invariant-loop-at g l = (l.p.pool ≡ l.fn.p.pool) × Carrying l.fn.p.pool l.slot l.fn.root l.at l.link.back l.link.forth l.fn.n l.left l.fn.p.reads l.p.reads

abbrev pub decreases-loop-at : goal.decreases-loop-at
decreases-loop-at g l = height_at l.p.pool l.slot l.at
