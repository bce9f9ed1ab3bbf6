use Rattle.std.proofs.Common.{◌≡◌}
use Rattle.mi_tree.specs.Probed.{is_past_node}
use Rattle.mi_tree.specs.BinaryTree.{height_at}
use Rattle.mi_tree.proofs.LookUpLemmas.{Seeking}
use Rattle.mi_tree.proofs.tree.Tree.bound.Given as goal

abbrev pub invariant-loop-at : goal.invariant-loop-at
invariant-loop-at g l = (l.p.pool ≡ l.fn.p.pool)
    × Seeking l.fn.p.pool l.self.slot (g.O.NodeOrder.tag_of l.self.order) (is_past_node l.is_upper (λ v. g.O.NodeOrder.place l.self.order v l.probe) l.fn.p.pool)
    l.fn.self.root l.at l.found l.fn.p.reads l.p.reads l.fn.steps.count l.steps.count

abbrev pub decreases-loop-at : goal.decreases-loop-at
decreases-loop-at g l = height_at l.p.pool l.self.slot l.at
