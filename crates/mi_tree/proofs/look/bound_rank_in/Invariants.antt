use Rattle.std.proofs.Common.{◌≡◌}
use Rattle.mi_tree.specs.Probed.{is_past_node}
use Rattle.mi_tree.specs.BinaryTree.{height_at}
use Rattle.mi_tree.proofs.ProbeRankLemmas.{Passing}
use Rattle.mi_tree.proofs.look.bound_rank_in.Given as goal

abbrev pub invariant-loop-at : goal.invariant-loop-at
invariant-loop-at g l = (l.p.pool ≡ l.fn.p.pool)
    × Passing l.fn.p.pool l.slot (g.O.NodeOrder.tag_of l.order)
    (is_past_node l.sought.is_upper (λ v. g.O.NodeOrder.place l.order v l.sought.probe) l.fn.p.pool)
    l.fn.root l.at l.link l.before l.fn.p.reads l.p.reads l.fn.steps.count l.steps.count

abbrev pub decreases-loop-at : goal.decreases-loop-at
decreases-loop-at g l = height_at l.p.pool l.slot l.at
