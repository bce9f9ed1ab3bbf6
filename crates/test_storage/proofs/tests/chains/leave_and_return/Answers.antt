-- The first node leaves and comes back between the neighbours that it remembers.
use Rattle.std.proofs.Common.{◌<◌, [], ◌∷◌, subst, ◌∙◌}
use Rattle.test_storage.specs.OneKey.{one_keying}
use Rattle.mi_chain.specs.Chained.{AreChained, FitsBetween}
use Rattle.test_storage.proofs.ThreeNodeLemmas.{fits_read}
use Rattle.test_storage.proofs.tests.chains.leave_and_return.Given.{Over}
use Rattle.test_storage.proofs.tests.chains.leave_and_return.Goals.{After-remove, After-link-remembered, After-relink}
use Rattle.test_storage.proofs.tests.chains.leave_and_return.Goals as goal

module _ (g : Over) (c : After-remove g) where
  -- the second node is left
  gone : AreChained c.remove.new.self one_keying c.remove.new.p (c.args.two ∷ [])
  gone = c.remove.ensures.list [] (c.args.two ∷ []) c.requires.list

module _ (g : Over) (c : After-link-remembered g) where
  -- the first fits before it, by the link that was read
  fits : FitsBetween one_keying c.remove.new.p c.remove.new.self.slot c.args.one c.link-remembered.result [] (c.args.two ∷ [])
  fits = fits_read c.remove.ensures.slot c.requires.slot c.link-remembered.ensures (c.remove.ensures.remembers [] (c.args.two ∷ []) c.requires.list)

module _ (g : Over) (c : After-relink g) (gone : AreChained c.remove.new.self one_keying c.remove.new.p (c.args.two ∷ []))
    (fits : FitsBetween one_keying c.remove.new.p c.remove.new.self.slot c.args.one c.link-remembered.result [] (c.args.two ∷ [])) where
  -- both nodes are back
  back : AreChained c.relink.new.self one_keying c.relink.new.p (c.args.one ∷ c.args.two ∷ [])
  back = c.relink.ensures.list [] (c.args.two ∷ []) gone fits

pub remove-requires : goal.remove-requires
remove-requires g c = ([], c.args.two ∷ [], c.requires.list)

pub assert_first-requires : goal.assert_first-requires
assert_first-requires g c = (c.args.two ∷ [], gone g (goal.at.assert_first-requires g c).After-remove)

pub link-remembered-requires-clause-held : goal.link-remembered-requires-clause-held
link-remembered-requires-clause-held g c = let was = c.remove.ensures.remembers [] (c.args.two ∷ []) c.requires.list in was.placed.held

pub link-remembered-requires-clause-slot : goal.link-remembered-requires-clause-slot
link-remembered-requires-clause-slot g c =
    let gone = gone g (goal.at.link-remembered-requires-clause-slot g c).After-remove in
    subst (λ z. z < c.remove.new.p.slots) (c.remove.ensures.slot ∙ c.requires.slot) gone.buckets.slot

pub relink-requires : goal.relink-requires
relink-requires g c = let o = goal.at.relink-requires g c in ([], c.args.two ∷ [], gone g o.After-remove, fits g o.After-link-remembered)

pub assert_both-requires-2 : goal.assert_both-requires-2
assert_both-requires-2 g c =
    let o = goal.at.assert_both-requires-2 g c in back g o.After-relink (gone g o.After-remove) (fits g o.After-link-remembered)

pub make_room-requires : goal.make_room-requires
make_room-requires g c =
    let o = goal.at.make_room-requires g c in
    (c.args.one ∷ c.args.two ∷ [], back g o.After-relink (gone g o.After-remove) (fits g o.After-link-remembered))

pub assert_both-requires-3 : goal.assert_both-requires-3
assert_both-requires-3 g c =
    let o = goal.at.assert_both-requires-3 g c in
    c.make_room.ensures.list (c.args.one ∷ c.args.two ∷ []) (back g o.After-relink (gone g o.After-remove) (fits g o.After-link-remembered))
