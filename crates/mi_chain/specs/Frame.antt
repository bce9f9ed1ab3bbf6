-- What chains need of the values of their nodes: the keys.
use Rattle.std.specs.Prelude.{◌≡◌, true, List as Seq, Some}
use Rattle.std.specs.List.{filter}
use Rattle.mi_value.specs.declared.bound.Probe.{Probe}
use Rattle.mi_node.specs.Pool.{Pooled, value_of, with_value}
use Rattle.mi_node.specs.Refs.{Ref}
use Rattle.mi_chain.specs.Keying.{Keying, has_key}
use Rattle.mi_chain.specs.Chained.{AreChained}
use Rattle.mi_chain.specs.declared.chains.Chains.{Chains}

-- a node's value may be exchanged for one of an equal key: the chains are of the same nodes, and so is the list of each key
abbrev pub StandWhereSwapped : (T H : Type 0) → Keying T → Type 0
StandWhereSwapped T H k = (c : Chains H) (m : Pooled T) (rs : Seq Ref) (x : Ref) (old new : T)
    → AreChained c k m rs → value_of m x.name ≡ Some old → k.same old new ≡ true
    → AreChained c k (with_value m x.name new) rs
    × ((p : Probe) → filter (has_key k (with_value m x.name new) p) rs ≡ filter (has_key k m p) rs)
