-- A walk down begins at the last node that meets the bound.
use Rattle.std.proofs.Common.{false, true, ap, sym, ◌∙◌, arith}
use Rattle.mi_value.specs.declared.bound.Upper.TheVariants.{UpTo, Below}
use Rattle.mi_order.specs.Orders.{stored_order, stored_tag}
use Rattle.mi_index.proofs.RangeLemmas.{begun_last, begun_down}
use Rattle.mi_index.proofs.walk.KeyRange.walk_down.Goals as goal

pub returns-in-All-clause-walk : goal.returns-in-All-clause-walk
returns-in-All-clause-walk c rs h =
    let v = c.args in let o = v.tree.now.order in
    begun_last v.tree.now v.p.now.pool rs h v.self.now c.walk.result c.requires.parts c.requires.direction c.in-All.is 4294967295 (let f = h.fits in omega (arith, f))
    (c.walk.ensures.walk (stored_order o.parts) (stored_tag o.types o.parts) rs h)

pub returns-in-All-clause-reads : goal.returns-in-All-clause-reads
returns-in-All-clause-reads c rs h b l =
    let o = c.args.tree.now.order in c.walk.ensures.reads (stored_order o.parts) (stored_tag o.types o.parts) rs h b l

pub returns-in-UpTo-clause-walk : goal.returns-in-UpTo-clause-walk
returns-in-UpTo-clause-walk c rs h =
    let v = c.args in
    begun_down v.tree.now v.p.now.pool rs h v.self.now c.walk_from_bound.result c.requires.parts c.requires.direction true c.values.result
    (c.in-UpTo.is ∙ ap UpTo (sym c.values.ensures)) (c.walk_from_bound.ensures.walk rs h)

pub returns-in-UpTo-clause-reads : goal.returns-in-UpTo-clause-reads
returns-in-UpTo-clause-reads c rs h b l =
    let o = c.args.tree.now.order in
    let few = c.walk_from_bound.ensures.reads (stored_order o.parts) (stored_tag o.types o.parts) rs h b l in omega (arith, few)

pub returns-in-UpTo-clause-steps : goal.returns-in-UpTo-clause-steps
returns-in-UpTo-clause-steps c rs h b l =
    let o = c.args.tree.now.order in c.walk_from_bound.ensures.steps (stored_order o.parts) (stored_tag o.types o.parts) rs h b l

pub returns-in-Below-clause-walk : goal.returns-in-Below-clause-walk
returns-in-Below-clause-walk c rs h =
    let v = c.args in
    begun_down v.tree.now v.p.now.pool rs h v.self.now c.walk_from_bound-in-Below.result c.requires.parts c.requires.direction false c.values-in-Below.result
    (c.in-Below.is ∙ ap Below (sym c.values-in-Below.ensures)) (c.walk_from_bound-in-Below.ensures.walk rs h)

pub returns-in-Below-clause-reads : goal.returns-in-Below-clause-reads
returns-in-Below-clause-reads c rs h b l =
    let o = c.args.tree.now.order in
    let few = c.walk_from_bound-in-Below.ensures.reads (stored_order o.parts) (stored_tag o.types o.parts) rs h b l in omega (arith, few)

pub returns-in-Below-clause-steps : goal.returns-in-Below-clause-steps
returns-in-Below-clause-steps c rs h b l =
    let o = c.args.tree.now.order in c.walk_from_bound-in-Below.ensures.steps (stored_order o.parts) (stored_tag o.types o.parts) rs h b l
