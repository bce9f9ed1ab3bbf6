-- It is a part of what holds in every state, said of the ids in the pool's nodes.
use Rattle.std.proofs.Common.{subst}
use Rattle.mi_container.specs.Held.{HoldsNodes}
use Rattle.mi_multi.specs.Seen.{Seen}
use Rattle.mi_multi.proofs.HeldLemmas.{nodes_held}
use Rattle.mi_multi.proofs.multi.MultiIndex.keeps_nodes.Goals as goal

pub returns : goal.returns
returns c =
    let i = c.self.inside in
    subst (λ (w : Seen). HoldsNodes w.held w.plain) c.self.view_is
    (nodes_held i.schema i.ids.entries i.nodes.pool i.nodes.structures.items i.next i.arrivals c.self.invariant)
