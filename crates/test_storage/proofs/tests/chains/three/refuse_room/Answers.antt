-- A refused growth leaves the list as it was.
use Rattle.std.proofs.Common.{[], ◌∷◌}
use Rattle.test_storage.proofs.tests.chains.three.refuse_room.Goals as goal

pub make_room-requires : goal.make_room-requires
make_room-requires g c = (c.args.one ∷ c.args.two ∷ c.args.three ∷ [], c.requires)

pub assert_list-requires : goal.assert_list-requires
assert_list-requires g c = let rs = c.args.one ∷ c.args.two ∷ c.args.three ∷ [] in (rs, c.make_room.ensures.list rs c.requires)

pub assert_list-requires-2 : goal.assert_list-requires-2
assert_list-requires-2 g c = let rs = c.args.one ∷ c.args.two ∷ c.args.three ∷ [] in (rs, c.make_room.ensures.list rs c.requires)

pub assert_list-requires-3 : goal.assert_list-requires-3
assert_list-requires-3 g c = let rs = c.args.one ∷ c.args.two ∷ c.args.three ∷ [] in (rs, c.make_room.ensures.list rs c.requires)

pub returns : goal.returns
returns g c = let rs = c.args.one ∷ c.args.two ∷ c.args.three ∷ [] in c.make_room.ensures.list rs c.requires
