use Rattle.std.proofs.Common.{◌≡◌}
use Rattle.mi_node.specs.Pool.{IsHeld}
use Rattle.test_storage.proofs.tests.pool.many_nodes_stand_in_chunks.Given as goal

-- the first node is there still, with its two links
abbrev pub invariant-loop-value : goal.invariant-loop-value
invariant-loop-value g l = record {
  held : IsHeld l.pool l.first;
  slots : l.pool.slots ≡ 2;
}
