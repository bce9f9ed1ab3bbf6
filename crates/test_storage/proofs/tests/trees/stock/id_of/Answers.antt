-- The node that is named is held.
use Rattle.std.proofs.Common.{subst}
use Rattle.mi_node.specs.Pool.{IsHeldIf}
use Rattle.test_storage.proofs.tests.trees.stock.id_of.Goals as goal

pub value-requires : goal.value-requires
value-requires c = subst (IsHeldIf c.args.pool.now) c.in-Some.is c.requires
