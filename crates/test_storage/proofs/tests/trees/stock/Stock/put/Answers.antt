-- The node that came out last is held still, and its stamp is no other's.
use Rattle.std.proofs.Common.{ap, refl, sym, subst}
use Rattle.mi_node.specs.declared.link.Link.{Link}
use Rattle.test_storage.specs.Stock.{IsStock}
use Rattle.test_storage.proofs.StockLemmas.{last_held, may_put, has_put}
use Rattle.test_storage.proofs.tests.trees.stock.Stock.put.Goals as goal

pub link-stamp-requires-clause-held : goal.link-stamp-requires-clause-held
link-stamp-requires-clause-held c = last_held _ _ c.self.invariant c.in-Some.ensures.items refl

pub insert-requires : goal.insert-requires
insert-requires c =
    let h = c.self.invariant in let had = ap (λ (y : Link). y.tag.stamp) c.link-stamp.ensures in
    (h.rs, h.tree, may_put _ _ h c.in-Some.ensures.items had)

pub invariant_of-self-2 : goal.invariant_of-self-2
invariant_of-self-2 c =
    let h = c.self.invariant in let items = c.in-Some.ensures.items in let e = c.insert.ensures in
    let had = ap (λ (y : Link). y.tag.stamp) c.link-stamp.ensures in let new = may_put _ _ h items had in let w = e.tree h.rs h.tree new in
    let stock = has_put _ _ h items had c.insert.new.self c.insert.new.p w.0 w.1 w.2 (e.keeps h.rs h.tree new) e.stamp e.tags e.slot in
    subst (λ o. IsStock o.tagged c.insert.new.self c.insert.new.p c.pop.new.self.items c.self.inside.next) (sym e.order) stock
