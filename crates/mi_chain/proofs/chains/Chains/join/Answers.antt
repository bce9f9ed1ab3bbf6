-- The links on both sides of a gap are set, each of a node that is held.
use Rattle.std.proofs.Common.{◌<◌, sym, subst}
use Rattle.mi_node.specs.Pool.{IsHeldIf}
use Rattle.mi_node.proofs.NeighbourLemmas.{held_still, slots-forth}
use Rattle.mi_chain.proofs.chains.Chains.join.Goals as goal

pub set_back-requires-clause-held : goal.set_back-requires-clause-held
set_back-requires-clause-held g c =
    let v = c.args in subst (λ n. IsHeldIf n v.right) (sym c.set_forth.ensures) (held_still v.self.now.slot v.p.now v.left v.forth v.right c.requires.held.1)

pub set_back-requires-clause-slot : goal.set_back-requires-clause-slot
set_back-requires-clause-slot g c =
    let v = c.args in
    subst (λ n. v.self.now.slot < n.slots) (sym c.set_forth.ensures)
    (subst (λ n. v.self.now.slot < n) (sym (slots-forth v.self.now.slot v.p.now v.left v.forth)) c.requires.slot)
