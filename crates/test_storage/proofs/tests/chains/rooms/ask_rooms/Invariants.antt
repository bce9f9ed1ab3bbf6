use Rattle.std.proofs.Common.{◌≡◌, List}
use Rattle.mi_node.specs.Refs.{Ref}
use Rattle.mi_chain.specs.Chained.{AreChained}
use Rattle.test_storage.specs.Numbered.{number_keying}
use Rattle.test_storage.proofs.tests.chains.rooms.ask_rooms.Given as goal

-- the chains stand through slot 1
abbrev pub invariant-rooms : goal.invariant-rooms
invariant-rooms g l = ((rs : List Ref) × AreChained l.chains number_keying l.p rs) × (l.chains.slot ≡ 1)
