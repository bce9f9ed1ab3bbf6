-- A walk up begins at the first node that meets the bound.
use Rattle.std.proofs.Common.{false, true, ap, sym, ◌∙◌, arith}
use Rattle.mi_value.specs.declared.bound.Lower.TheVariants.{From, Beyond}
use Rattle.mi_order.specs.Orders.{stored_order, stored_tag}
use Rattle.mi_index.proofs.RangeLemmas.{begun_first, begun_up}
use Rattle.mi_index.proofs.walk.KeyRange.walk_ascending.Goals as goal

pub returns-in-All-clause-walk : goal.returns-in-All-clause-walk
returns-in-All-clause-walk c rs h =
    let v = c.args in let o = v.tree.now.order in
    begun_first v.tree.now v.p.now.pool rs h v.self.now c.walk.result c.requires.parts c.requires.direction c.in-All.is
    (c.walk.ensures.walk (stored_order o.parts) (stored_tag o.types o.parts) rs h)

pub returns-in-All-clause-reads : goal.returns-in-All-clause-reads
returns-in-All-clause-reads c rs h b l =
    let o = c.args.tree.now.order in c.walk.ensures.reads (stored_order o.parts) (stored_tag o.types o.parts) rs h b l

pub returns-in-From-clause-walk : goal.returns-in-From-clause-walk
returns-in-From-clause-walk c rs h =
    let v = c.args in
    begun_up v.tree.now v.p.now.pool rs h v.self.now c.walk_from_bound.result c.requires.parts c.requires.direction false c.values.result
    (c.in-From.is ∙ ap From (sym c.values.ensures)) (c.walk_from_bound.ensures.walk rs h)

pub returns-in-From-clause-reads : goal.returns-in-From-clause-reads
returns-in-From-clause-reads c rs h b l =
    let o = c.args.tree.now.order in
    let few = c.walk_from_bound.ensures.reads (stored_order o.parts) (stored_tag o.types o.parts) rs h b l in omega (arith, few)

pub returns-in-From-clause-steps : goal.returns-in-From-clause-steps
returns-in-From-clause-steps c rs h b l =
    let o = c.args.tree.now.order in c.walk_from_bound.ensures.steps (stored_order o.parts) (stored_tag o.types o.parts) rs h b l

pub returns-in-Beyond-clause-walk : goal.returns-in-Beyond-clause-walk
returns-in-Beyond-clause-walk c rs h =
    let v = c.args in
    begun_up v.tree.now v.p.now.pool rs h v.self.now c.walk_from_bound-in-Beyond.result c.requires.parts c.requires.direction true c.values-in-Beyond.result
    (c.in-Beyond.is ∙ ap Beyond (sym c.values-in-Beyond.ensures)) (c.walk_from_bound-in-Beyond.ensures.walk rs h)

pub returns-in-Beyond-clause-reads : goal.returns-in-Beyond-clause-reads
returns-in-Beyond-clause-reads c rs h b l =
    let o = c.args.tree.now.order in
    let few = c.walk_from_bound-in-Beyond.ensures.reads (stored_order o.parts) (stored_tag o.types o.parts) rs h b l in omega (arith, few)

pub returns-in-Beyond-clause-steps : goal.returns-in-Beyond-clause-steps
returns-in-Beyond-clause-steps c rs h b l =
    let o = c.args.tree.now.order in c.walk_from_bound-in-Beyond.ensures.steps (stored_order o.parts) (stored_tag o.types o.parts) rs h b l
