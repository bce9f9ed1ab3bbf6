-- the groups so far are of other keys
use Rattle.std.proofs.Common.{List as Seq}
use Rattle.mi_node.specs.Pool.{node_count}
use Rattle.mi_node.specs.Refs.{Ref}
use Rattle.mi_chain.specs.Groups.{IsChain}
use Rattle.mi_chain.specs.Moves.{hops, next_group}
use Rattle.mi_chain.proofs.SearchLemmas.{Walked}
use Rattle.mi_chain.specs.Keying.{same_nodes}
use Rattle.mi_chain.proofs.look.group_of.Given as goal

abbrev pub invariant-loop-at : goal.invariant-loop-at
invariant-loop-at g l = (gs : Seq (Seq Ref)) → IsChain l.p l.slot l.fn.head gs → Walked (same_nodes (g.H.KeyHash.keying l.keys) l.p l.node) gs l.before l.at

abbrev pub decreases-loop-at : goal.decreases-loop-at
decreases-loop-at g l = hops (next_group l.p l.slot) (node_count l.p) l.at
