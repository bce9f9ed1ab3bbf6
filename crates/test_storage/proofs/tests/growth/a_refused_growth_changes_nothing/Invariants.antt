use Rattle.mi_node.specs.Pool.{IsHeld}
use Rattle.test_storage.proofs.tests.growth.a_refused_growth_changes_nothing.Given as goal

abbrev pub invariant-loop-number : goal.invariant-loop-number
invariant-loop-number g l = IsHeld l.pool l.first
