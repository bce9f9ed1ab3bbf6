use Rattle.std.proofs.Common.{◌≡◌, true, false}
use Rattle.mi_tree.specs.Probed.{is_past_node}
use Rattle.mi_tree.specs.BinaryTree.{height_at}
use Rattle.mi_tree.proofs.CountLemmas.{Parting}
use Rattle.mi_tree.proofs.look.count_in.Given as goal

abbrev pub invariant-loop-at : goal.invariant-loop-at
invariant-loop-at g l = (l.p.pool ≡ l.fn.p.pool)
    × Parting l.fn.p.pool l.slot (g.O.NodeOrder.tag_of l.order)
    (is_past_node false (λ v. g.O.NodeOrder.place l.order v l.sought.probe) l.fn.p.pool)
    (is_past_node true (λ v. g.O.NodeOrder.place l.order v l.sought.probe) l.fn.p.pool)
    l.fn.root l.at l.fn.p.reads l.p.reads l.fn.steps.count l.steps.count

abbrev pub decreases-loop-at : goal.decreases-loop-at
decreases-loop-at g l = height_at l.p.pool l.slot l.at
