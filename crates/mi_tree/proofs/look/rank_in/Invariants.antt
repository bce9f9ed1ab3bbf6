use Rattle.std.proofs.Common.{◌≡◌}
use Rattle.mi_tree.specs.BinaryTree.{height_at}
use Rattle.mi_tree.proofs.RankLemmas.{Ranking}
use Rattle.mi_tree.proofs.look.rank_in.Given as goal

abbrev pub invariant-loop-at : goal.invariant-loop-at
invariant-loop-at g l = (l.p.pool ≡ l.fn.p.pool)
    × Ranking l.fn.p.pool l.slot (g.O.NodeOrder.order l.order) (g.O.NodeOrder.tag_of l.order)
    l.node l.fn.root l.at l.before l.fn.p.reads l.p.reads l.fn.steps.count l.steps.count

abbrev pub decreases-loop-at : goal.decreases-loop-at
decreases-loop-at g l = height_at l.p.pool l.slot l.at
