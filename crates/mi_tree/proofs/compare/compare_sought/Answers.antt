-- A node whose tag isn't the probe's stands on the side that the tags say.
use Rattle.std.proofs.Common.{sym, ◌∙◌}
use Rattle.mi_node.proofs.EntryLemmas.{held_has}
use Rattle.mi_tree.proofs.CompareLemmas.{by_probe}
use Rattle.mi_tree.proofs.compare.compare_sought.Goals as goal

pub returns-then-tag-wanted-clause-result : goal.returns-then-tag-wanted-clause-result
returns-then-tag-wanted-clause-result g c =
    let v = c.args in let m = v.p.now.pool in let o = v.order.now in let w = c.requires in let a = held_has m v.node w.node.0 in
    c.cmp.ensures
    ∙ by_probe (g.O.NodeOrder.order o) (g.O.NodeOrder.tag_of o) (λ (x : g.row.T.Denot). g.O.NodeOrder.place o x v.sought.now.probe)
    (g.O.NodeOrder.probe_tag_of o v.sought.now.probe) (g.met.O.NodeOrder.probe_below o v.sought.now.probe)
    (g.met.O.NodeOrder.probe_above o v.sought.now.probe) _ a.0 v.tag.key c.in-Some.wanted
    a.1 w.node.1 (sym w.probe ∙ c.in-Some.is) c.if-tag-wanted.true
