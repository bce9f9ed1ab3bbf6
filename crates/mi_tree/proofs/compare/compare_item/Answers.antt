-- Of two different tags the smaller says which is less; one tag that decides is one key, and then the stamps say it.
use Rattle.std.proofs.Common.{Some, refl, sym, ◌∙◌}
use Rattle.mi_node.proofs.EntryLemmas.{held_has}
use Rattle.mi_tree.proofs.CompareLemmas.{by_key, by_stamps}
use Rattle.mi_tree.proofs.compare.compare_item.Goals as goal

pub returns-then-item-tag-clause-result : goal.returns-then-item-tag-clause-result
returns-then-item-tag-clause-result g c =
    let v = c.args in let o = v.order.now in let w = c.requires in let x = v.item.now.value.now in let b = held_has v.p.now v.node w.node.0 in
    c.cmp.ensures
    ∙ by_key (g.O.NodeOrder.order o) (g.O.NodeOrder.tag_of o) (g.met.O.NodeOrder.total o) (g.met.O.NodeOrder.tag_below o) (Some x) _ x b.0
    v.item.now.tag.key v.tag.key v.item.now.tag.stamp v.tag.stamp refl b.1 w.item w.node.1 c.if-item-tag.true

pub returns-then-item-clause-result : goal.returns-then-item-clause-result
returns-then-item-clause-result g c =
    let v = c.args in let o = v.order.now in let w = c.requires in let x = v.item.now.value.now in let b = held_has v.p.now v.node w.node.0 in
    c.cmp-then-item.ensures
    ∙ by_stamps (g.O.NodeOrder.order o) (g.O.NodeOrder.tag_of o) (g.O.NodeOrder.is_exact o) (g.met.O.NodeOrder.exact o) (Some x) _ x b.0
    v.item.now.tag.key v.tag.key v.item.now.tag.stamp v.tag.stamp refl b.1 w.item w.node.1 c.if-item-tag.false (sym w.decided ∙ c.if-item.true)
