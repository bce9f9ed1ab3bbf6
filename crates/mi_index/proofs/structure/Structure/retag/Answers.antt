-- The node's link in the tree gets another tag.
use Rattle.std.proofs.Common.{◌≡◌, ◌==◌, false, Some, sym, ap, ◌∙◌, subst}
use Rattle.mi_node.specs.Pool.{Pooled, link_of}
use Rattle.mi_node.proofs.EntryLemmas.{held_has, ref-with_link, value-with_link, slots-with_link, link_here, link_there, link_beside}
use Rattle.mi_order.specs.declared.stored.Stored.{Stored}
use Rattle.mi_index.specs.Keeping.{KeepsButLinks, own_link}
use Rattle.mi_index.specs.Standing.{slot_in}
use Rattle.mi_index.proofs.structure.Structure.retag.Goals as goal

pub returns-in-Sorted-clause-but : goal.returns-in-Sorted-clause-but
returns-in-Sorted-clause-but c =
    let m = c.args.p.now in let r = c.args.node in let v = held_has m r c.requires.held in let s = c.in-Sorted.tree.slot in
    subst (λ z. KeepsButLinks m z r) (sym (c.retag.ensures v.0 v.1)) (record {
      refs = λ k. ref-with_link m r.name s _ k;
      values = λ k. value-with_link m r.name s _ k;
      slots = slots-with_link m r.name s _;
      links = λ k t e. link_there m r.name s _ k t e;
    })

pub returns-in-Sorted-clause-own : goal.returns-in-Sorted-clause-own
returns-in-Sorted-clause-own c v is =
    let m = c.args.p.now in let r = c.args.node in let s = c.in-Sorted.tree.slot in
    subst (λ x. link_of c.retag.new.p r.name (slot_in x) ≡ own_link (Some c.args.stamp) x v (link_of m r.name (slot_in x))) (sym c.in-Sorted.is)
    (ap (λ (z : Pooled Stored). link_of z r.name s) (c.retag.ensures v is) ∙ link_here m r s _ c.requires.held)

pub returns-in-Sorted-clause-slots : goal.returns-in-Sorted-clause-slots
returns-in-Sorted-clause-slots c t e =
    let m = c.args.p.now in let r = c.args.node in let s = c.in-Sorted.tree.slot in let v = held_has m r c.requires.held in
    ap (λ (z : Pooled Stored). link_of z r.name t) (c.retag.ensures v.0 v.1) ∙ link_beside m r.name s _ r.name t (subst (λ x. (slot_in x == t) ≡ false) c.in-Sorted.is e)
