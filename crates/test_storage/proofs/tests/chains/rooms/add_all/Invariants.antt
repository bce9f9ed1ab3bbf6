use Rattle.std.proofs.Common.{◌≡◌, List}
use Rattle.mi_node.specs.Refs.{Ref}
use Rattle.test_storage.specs.Numbered.{AreNumbered}
use Rattle.test_storage.proofs.tests.chains.rooms.add_all.Given as goal

-- so many nodes have their stamps, through slot 1
abbrev pub invariant-keys : goal.invariant-keys
invariant-keys g l = ((rs : List Ref) × AreNumbered l.chains l.p rs l.before) × (l.chains.slot ≡ 1)
