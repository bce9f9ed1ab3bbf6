-- with the bytes of the values that are left, the bytes are those that were there and those of all
use Rattle.std.proofs.Common.{◌≡◌, ◌++◌, drop, map}
use Rattle.mi_value.specs.Lent.{lent}
use Rattle.mi_value.specs.Block.{packed, ArePackable}
use Rattle.mi_value.proofs.record.push_values.Given as goal

abbrev pub invariant-loop-value : goal.invariant-loop-value
invariant-loop-value g l =
    (g.S.Sink.held l.bytes ++ packed (map lent (drop l.value-index l.values)) ≡ g.S.Sink.held l.fn.bytes ++ packed (map lent l.values))
    × (ArePackable (map lent (drop l.value-index l.values)) → ArePackable (map lent l.values))
