-- the nodes so far have no lower stamp
use Rattle.std.proofs.Common.{◌≡◌, List as Seq, Option, Some, None}
use Rattle.mi_node.specs.Pool.{node_count}
use Rattle.mi_node.specs.Neighbours.{IsLinked}
use Rattle.mi_node.specs.Refs.{Ref, first_of, last_of, IsApart}
use Rattle.mi_chain.specs.Keying.{stamp_at}
use Rattle.mi_chain.specs.Moves.{hops}
use Rattle.mi_chain.proofs.SearchLemmas.{Gapped, step_back}
use Rattle.mi_chain.proofs.look.gap_for.Given as goal

abbrev pub invariant-loop-at : goal.invariant-loop-at
invariant-loop-at g l = (group : Seq Ref) (f : Option Ref)
    → IsLinked l.p l.slot (last_of None group) group f → IsApart group → first_of group None ≡ Some l.first
    → Gapped (stamp_at l.p l.slot) l.stamp group l.at l.next

abbrev pub decreases-loop-at : goal.decreases-loop-at
decreases-loop-at g l = hops (step_back l.p l.slot l.first) (node_count l.p) l.at
