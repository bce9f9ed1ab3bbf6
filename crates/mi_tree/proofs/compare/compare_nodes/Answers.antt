-- Of two nodes with different tags the one with the smaller is less; one tag that decides is one key, and then the stamps say it.
use Rattle.std.proofs.Common.{sym, ◌∙◌}
use Rattle.mi_node.proofs.EntryLemmas.{held_has}
use Rattle.mi_tree.proofs.CompareLemmas.{by_key, by_stamps}
use Rattle.mi_tree.proofs.compare.compare_nodes.Goals as goal

pub returns-then-left_tag-right_tag-clause-result : goal.returns-then-left_tag-right_tag-clause-result
returns-then-left_tag-right_tag-clause-result g c =
    let v = c.args in let m = v.p.now.pool in let o = v.order.now in let w = c.requires in let a = held_has m v.left w.left.0 in
    let b = held_has m v.right w.right.0 in
    c.cmp.ensures
    ∙ by_key (g.O.NodeOrder.order o) (g.O.NodeOrder.tag_of o) (g.met.O.NodeOrder.total o) (g.met.O.NodeOrder.tag_below o) _ _ a.0
    b.0 v.left_tag.key v.right_tag.key v.left_tag.stamp v.right_tag.stamp a.1 b.1 w.left.1 w.right.1 c.if-left_tag-right_tag.true

pub returns-then-decided-clause-result : goal.returns-then-decided-clause-result
returns-then-decided-clause-result g c =
    let v = c.args in let m = v.p.now.pool in let o = v.order.now in let w = c.requires in let a = held_has m v.left w.left.0 in
    let b = held_has m v.right w.right.0 in
    c.cmp-then-decided.ensures
    ∙ by_stamps (g.O.NodeOrder.order o) (g.O.NodeOrder.tag_of o) (g.O.NodeOrder.is_exact o) (g.met.O.NodeOrder.exact o)
    _ _ a.0 b.0 v.left_tag.key v.right_tag.key v.left_tag.stamp v.right_tag.stamp a.1 b.1 w.left.1 w.right.1
    c.if-left_tag-right_tag.false (sym w.decided ∙ c.if-decided.true)
