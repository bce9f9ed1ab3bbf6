-- The node gets its link, and then those on both sides of it are set.
use Rattle.std.proofs.Common.{◌<◌, sym, subst}
use Rattle.mi_node.specs.Pool.{IsHeldIf}
use Rattle.mi_node.proofs.EntryLemmas.{slots-with_link}
use Rattle.mi_node.proofs.NeighbourLemmas.{held_link}
use Rattle.mi_chain.proofs.chains.Chains.put.Goals as goal

pub join-requires-clause-held : goal.join-requires-clause-held
join-requires-clause-held g c = let v = c.args in
    subst (λ n. IsHeldIf n v.left × IsHeldIf n v.right) (sym c.set_link.ensures)
    (held_link v.self.now.slot v.p.now v.node.name _ v.left c.requires.held.0, held_link v.self.now.slot v.p.now v.node.name _ v.right c.requires.held.1)

pub join-requires-clause-slot : goal.join-requires-clause-slot
join-requires-clause-slot g c =
    let v = c.args in
    subst (λ n. v.self.now.slot < n.slots) (sym c.set_link.ensures)
    (subst (λ n. v.self.now.slot < n) (sym (slots-with_link v.p.now v.node.name v.self.now.slot _)) c.requires.slot)
