-- The row is there, and the place of its node has its stamp.
use Rattle.std.proofs.Common.{◌∙◌, ◌<◌, length, sym, subst}
use Rattle.mi_container.proofs.InvariantLemmas.{has_there}
use Rattle.mi_multi.specs.Seen.{Seen}
use Rattle.mi_multi.proofs.CallLemmas.{absent}
use Rattle.mi_multi.proofs.IndexNumberLemmas.{reaches}
use Rattle.mi_multi.proofs.PutCallLemmas.{live_of, its_slot, its_node}
use Rattle.mi_multi.proofs.ImagingLemmas.{stamp_seen}
use Rattle.mi_multi.proofs.multi.MultiIndex.stamp.Goals as goal

pub returns-in_default : goal.returns-in_default
returns-in_default c = absurd (absent c.self.inside c.self.invariant c.self.view_is c.args.id c.live.ensures c.in_default.is
    (has_there c.args.self.now.plain c.args.id c.requires.row))

pub structure_at-requires : goal.structure_at-requires
structure_at-requires c =
    let i = c.self.inside in
    reaches i.schema i.ids.entries i.nodes.pool i.nodes.structures.items i.next i.arrivals c.self.invariant c.args.index
    (subst (λ (u : Seen). c.args.index < length u.shape.indexes) (sym c.self.view_is) c.requires.index)

pub place-requires-clause-slot : goal.place-requires-clause-slot
place-requires-clause-slot c =
    its_slot c.self.inside c.self.invariant c.args.self.now c.self.view_is (record { id = c.args.id; node = c.in-Some.node })
    (live_of c.self.inside c.args.self.now c.self.view_is c.args.id c.in-Some.node (sym c.live.ensures ∙ c.in-Some.is))
    c.args.index c.requires.index c.structure_at.result.now c.structure_at.ensures

pub place-requires-clause-node : goal.place-requires-clause-node
place-requires-clause-node c =
    its_node c.self.inside c.self.invariant c.args.self.now c.self.view_is (record { id = c.args.id; node = c.in-Some.node })
    (live_of c.self.inside c.args.self.now c.self.view_is c.args.id c.in-Some.node (sym c.live.ensures ∙ c.in-Some.is))
    c.args.index c.requires.index c.structure_at.result.now c.structure_at.ensures

pub returns : goal.returns
returns c =
    stamp_seen c.self.inside c.self.invariant c.self.view_is c.args.index c.args.id c.in-Some.node (sym c.live.ensures ∙ c.in-Some.is)
    c.requires.stamped c.structure_at.result.now c.structure_at.ensures c.place.result c.place.ensures
