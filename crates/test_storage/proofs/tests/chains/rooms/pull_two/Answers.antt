-- Two nodes leave and come back, the later one first.
use Rattle.std.proofs.Common.{◌++◌, ◌∙◌, sym, subst}
use Rattle.mi_chain.specs.Chained.{AreChained}
use Rattle.test_storage.specs.Numbered.{number_keying, AreSeenAlike}
use Rattle.test_storage.proofs.SevenNodeLemmas.{fits_alike, alike_back}
use Rattle.test_storage.proofs.tests.chains.rooms.pull_two.Given.{Over}
use Rattle.test_storage.proofs.tests.chains.rooms.pull_two.Goals.{After-relink}
use Rattle.test_storage.proofs.tests.chains.rooms.pull_two.Goals as goal

module _ (g : Over) (c : After-relink g) where
  -- the second node is back among those without the first, and the pool is seen as it was then
  second_back : let first = c.in-Some.ensures.list c.requires.list.0 c.requires.list.1 in
      AreChained c.relink.new.self number_keying c.relink.new.p (first.0 ++ first.1) × AreSeenAlike c.pull.new.p c.relink.new.p c.pull.new.chains.slot
  second_back =
      let first = c.in-Some.ensures.list c.requires.list.0 c.requires.list.1 in
      let second = c.in-Some-pull.ensures.list (first.0 ++ first.1) first.3 in
      let list = c.relink.ensures.list second.0 second.1 second.3 second.4 in let keeps = c.relink.ensures.keeps second.0 second.1 second.3 second.4 in (
        subst (AreChained c.relink.new.self number_keying c.relink.new.p) (sym second.2) list,
        alike_back _ c.pull-2.ensures.slot c.pull-2.ensures.alike keeps second.5 c.relink.ensures.tags,
      )

pub assert_list-requires-3 : goal.assert_list-requires-3
assert_list-requires-3 g c = let back = second_back g (goal.at.assert_list-requires-3 g c).After-relink in (_, back.0)

pub relink-requires-2 : goal.relink-requires-2
relink-requires-2 g c =
    let first = c.in-Some.ensures.list c.requires.list.0 c.requires.list.1 in let back = second_back g (goal.at.relink-requires-2 g c).After-relink in
    (first.0, first.1, back.0, fits_alike (c.relink.ensures.slot ∙ c.pull-2.ensures.slot) back.1 first.4)

pub assert_list-requires-4 : goal.assert_list-requires-4
assert_list-requires-4 g c =
    let first = c.in-Some.ensures.list c.requires.list.0 c.requires.list.1 in let back = second_back g (goal.at.assert_list-requires-4 g c).After-relink in
    (_, c.relink-2.ensures.list first.0 first.1 back.0 (fits_alike (c.relink.ensures.slot ∙ c.pull-2.ensures.slot) back.1 first.4))
