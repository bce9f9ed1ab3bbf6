-- Where the left tag decides, the numbers of both tags compare as the nodes do.
use Rattle.std.proofs.Common.{sym, ap, ◌∙◌, arith}
use Rattle.std.specs.Ordering.{is_lt, nat_cmp}
use Rattle.mi_node.proofs.EntryLemmas.{held_has}
use Rattle.mi_tree.proofs.CompareLemmas.{by_number}
use Rattle.mi_tree.proofs.compare.is_before.Goals as goal

pub returns-then-decided-clause-result : goal.returns-then-decided-clause-result
returns-then-decided-clause-result g c =
    let v = c.args in let m = v.p.now.pool in let o = v.order.now in let w = c.requires in let a = held_has m v.left w.left.0 in
    let b = held_has m v.right w.right.0 in
    c.is_lt.ensures ∙ ap is_lt (c.cmp.ensures ∙ (λ t. nat_cmp (c.number.ensures t) (c.number-then-decided.ensures t))
    ∙ by_number (g.O.NodeOrder.order o) (g.O.NodeOrder.tag_of o) (g.met.O.NodeOrder.total o) (g.met.O.NodeOrder.tag_below o) (g.O.NodeOrder.is_exact o)
    (g.met.O.NodeOrder.exact o) _ _ a.0 b.0 v.left_tag.key v.right_tag.key v.left_tag.stamp v.right_tag.stamp a.1 b.1 w.left.1 w.right.1
    (omega arith) (omega arith) (sym w.decided ∙ c.if-decided.true))
