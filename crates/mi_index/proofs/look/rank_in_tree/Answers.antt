-- How many nodes are before one.
use Rattle.std.proofs.Common.{sym, subst, ◌++◌, ◌∷◌}
use Rattle.mi_order.specs.Orders.{stored_order, stored_tag}
use Rattle.mi_index.specs.Standing.{Stands}
use Rattle.mi_index.specs.declared.structure.Structure.TheVariants.{Sorted}
use Rattle.mi_index.proofs.look.rank_in_tree.Goals as goal

pub rank-requires : goal.rank-requires
rank-requires c =
    let t = c.args.tree.now in let q = c.requires in (q.0, q.1, subst (λ z. Stands (Sorted t) z (q.0 ++ c.args.node ∷ q.1)) (sym c.new.ensures.pool) q.2)

pub returns-clause-rank : goal.returns-clause-rank
returns-clause-rank c xs ys h =
    let t = c.args.tree.now in c.rank.ensures.rank xs ys (subst (λ z. Stands (Sorted t) z (xs ++ c.args.node ∷ ys)) (sym c.new.ensures.pool) h)

pub returns-clause-steps : goal.returns-clause-steps
returns-clause-steps c rs h b l =
    let t = c.args.tree.now in
    c.rank.ensures.steps (stored_order t.order.parts) (stored_tag t.order.types t.order.parts)
    rs (subst (λ z. Stands (Sorted t) z rs) (sym c.new.ensures.pool) h) b l
