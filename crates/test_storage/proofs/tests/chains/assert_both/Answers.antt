-- Two nodes of one key are the first of it and the next.
use Rattle.std.proofs.Common.{[], ◌∷◌}
use Rattle.test_storage.proofs.tests.chains.assert_both.Goals as goal

pub assert_first-requires : goal.assert_first-requires
assert_first-requires g c = (c.args.one ∷ c.args.two ∷ [], c.requires)

pub next_of-next-requires : goal.next_of-next-requires
next_of-next-requires g c = ([], c.args.two ∷ [], c.requires)

pub next_of-requires : goal.next_of-requires
next_of-requires g c = (c.args.one ∷ [], [], c.requires)
