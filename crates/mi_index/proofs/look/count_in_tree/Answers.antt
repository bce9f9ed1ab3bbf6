-- How many nodes are at a probe.
use Rattle.std.proofs.Common.{length, sym, subst, ap, ◌∙◌}
use Rattle.std.specs.List.{filter}
use Rattle.mi_order.specs.Orders.{place_in, stored_order, stored_tag}
use Rattle.mi_index.specs.Standing.{Stands}
use Rattle.mi_index.specs.declared.structure.Structure.TheVariants.{Sorted}
use Rattle.mi_tree.specs.Probed.{is_node_at}
use Rattle.mi_index.proofs.look.count_in_tree.Goals as goal

pub count-requires : goal.count-requires
count-requires c = let t = c.args.tree.now in let q = c.requires in (q.0, subst (λ z. Stands (Sorted t) z q.0) (sym c.new.ensures.pool) q.1)

pub returns-clause-count : goal.returns-clause-count
returns-clause-count c rs h =
    let t = c.args.tree.now in
    c.count.ensures.count rs (subst (λ z. Stands (Sorted t) z rs) (sym c.new.ensures.pool) h)
    ∙ ap (λ z. length (filter (is_node_at (λ v. place_in t.order.parts v c.args.probe) z) rs)) c.new.ensures.pool

pub returns-clause-steps : goal.returns-clause-steps
returns-clause-steps c rs h b l =
    let t = c.args.tree.now in
    c.count.ensures.steps (stored_order t.order.parts) (stored_tag t.order.types t.order.parts)
    rs (subst (λ z. Stands (Sorted t) z rs) (sym c.new.ensures.pool) h) b l
