-- The node of a rank.
use Rattle.std.proofs.Common.{sym, subst}
use Rattle.mi_order.specs.Orders.{stored_order, stored_tag}
use Rattle.mi_index.specs.Standing.{Stands}
use Rattle.mi_index.specs.declared.structure.Structure.TheVariants.{Sorted}
use Rattle.mi_index.proofs.look.nth_in_tree.Goals as goal

pub returns : goal.returns
returns c rs h =
    let t = c.args.tree.now in
    c.nth.ensures.node (stored_order t.order.parts) (stored_tag t.order.types t.order.parts) rs
    (subst (λ z. Stands (Sorted t) z rs) (sym c.new.ensures.pool) h)
