use Rattle.mi_tree.specs.BinaryTree.{height_at}
use Rattle.mi_tree.proofs.KeepingLemmas.{Nearing}
use Rattle.mi_tree.proofs.keeping.passes_none.Given as goal

abbrev pub invariant-loop-at : goal.invariant-loop-at
invariant-loop-at g l = Nearing (g.O.NodeOrder.order l.order) l.fn.p l.slot l.item.value.now l.item.tag.stamp
    (g.O.NodeOrder.tag_of l.order) l.rises l.fn.root l.at l.fn.steps.count l.steps.count

abbrev pub decreases-loop-at : goal.decreases-loop-at
decreases-loop-at g l = height_at l.p l.slot l.at
