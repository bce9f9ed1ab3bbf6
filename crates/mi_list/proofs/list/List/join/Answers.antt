-- The links or ends on both sides of a gap are set, each of a node that is held.
use Rattle.std.proofs.Common.{◌<◌, sym, subst, ap, ◌∙◌}
use Rattle.mi_node.specs.Pool.{Pooled, IsHeldIf}
use Rattle.mi_node.proofs.NeighbourLemmas.{held_still, slots-forth}
use Rattle.mi_list.proofs.list.List.join.Goals as goal

pub set_back-requires-clause-held : goal.set_back-requires-clause-held
set_back-requires-clause-held g c =
    subst (λ n. IsHeldIf n c.args.forth) (sym c.set_forth.ensures)
    (held_still c.args.self.now.slot c.args.p.now c.args.back c.args.next c.args.forth c.requires.forth)

pub set_back-requires-clause-slot : goal.set_back-requires-clause-slot
set_back-requires-clause-slot g c =
    subst (λ n. c.args.self.now.slot < n) (sym (ap (λ (q : Pooled g.row.T.Denot). q.slots) c.set_forth.ensures
    ∙ slots-forth c.args.self.now.slot c.args.p.now c.args.back c.args.next))
    c.requires.slot
