-- The values say how their keys stand, and the stamps how those of one key do.
use Rattle.std.proofs.Common.{sym, ◌∙◌}
use Rattle.std.specs.Ordering.{ordering_then}
use Rattle.mi_tree.proofs.CompareLemmas.{at_values}
use Rattle.mi_tree.proofs.compare.compare_values.Goals as goal

pub returns-clause-result : goal.returns-clause-result
returns-clause-result g c =
    let v = c.args in let o = v.order.now in
    c.then.ensures ∙ (λ i. ordering_then (c.compare.ensures.result i) (c.cmp.ensures i))
    ∙ sym (at_values (g.O.NodeOrder.order o) (g.O.NodeOrder.tag_of o) _ _ c.value.result.now c.value-2.result.now
    v.left_stamp v.right_stamp c.value.ensures c.value-2.ensures)
