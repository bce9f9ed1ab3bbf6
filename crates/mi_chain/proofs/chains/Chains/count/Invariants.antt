-- of any list that the chains are, what was counted and what comes are all nodes of the key
use Rattle.std.proofs.Common.{◌-◌, List}
use Rattle.mi_node.specs.Refs.{Ref}
use Rattle.mi_chain.specs.Keying.{has_key}
use Rattle.mi_chain.specs.Chained.{AreChained}
use Rattle.mi_chain.proofs.FollowLemmas.{Follows}
use Rattle.mi_chain.proofs.chains.Chains.count.Given as goal

abbrev pub invariant-nodes : goal.invariant-nodes
invariant-nodes g l = (rs : List Ref) → AreChained l.self (g.H.KeyHash.keying l.self.keys) l.p rs
    → Follows (has_key (g.H.KeyHash.keying l.self.keys) l.p l.key) rs l.next l.count

abbrev pub decreases-nodes : goal.decreases-nodes
decreases-nodes g l = 4294967296 - l.count
