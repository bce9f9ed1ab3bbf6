-- The node of the greatest rank.
use Rattle.std.proofs.Common.{◌≡◌, ◌-◌, suc, length, sym, subst, ◌∙◌, arith}
use Rattle.mi_order.specs.Orders.{stored_order, stored_tag}
use Rattle.mi_index.specs.Standing.{Stands}
use Rattle.mi_index.specs.declared.structure.Structure.TheVariants.{Sorted}
use Rattle.mi_tree.proofs.BinaryTreeLemmas.{last-none}
use Rattle.mi_index.proofs.LookUpLemmas.{last_nth}
use Rattle.mi_index.proofs.look.last_in_tree.Goals as goal

pub returns-then-len-eq0 : goal.returns-then-len-eq0
returns-then-len-eq0 c rs h =
    let t = c.args.tree.now in
    last-none rs (sym (c.len-len.ensures (stored_order t.order.parts) (stored_tag t.order.types t.order.parts) rs h) ∙ c.if-len-eq0.true)

pub returns : goal.returns
returns c rs h =
    let t = c.args.tree.now in
    let long = c.len-len.ensures (stored_order t.order.parts) (stored_tag t.order.types t.order.parts) rs h in
    let some = c.if-len-eq0.false in
    let e : length rs ≡ suc (c.len-len.result - 1) = omega (arith, long, some) in
    c.nth.ensures.node (stored_order t.order.parts) (stored_tag t.order.types t.order.parts) rs
    (subst (λ z. Stands (Sorted t) z rs) (sym c.new.ensures.pool) h)
    ∙ last_nth rs (c.len-len.result - 1) e
