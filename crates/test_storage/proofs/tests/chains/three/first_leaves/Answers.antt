-- The first node leaves, room is made, and it comes back by its stamp.
use Rattle.std.proofs.Common.{◌<◌, [], ◌∷◌, ◌∙◌, subst}
use Rattle.mi_chain.specs.Chained.{AreChained, IsPlaced}
use Rattle.test_storage.specs.Numbered.{number_keying}
use Rattle.test_storage.proofs.ThreeNodeLemmas.{fits_read, placed_alike}
use Rattle.test_storage.proofs.tests.chains.three.first_leaves.Given.{Over}
use Rattle.test_storage.proofs.tests.chains.three.first_leaves.Goals.{After-remove, After-make_room}
use Rattle.test_storage.proofs.tests.chains.three.first_leaves.Goals as goal

module _ (g : Over) (c : After-remove g) where
  -- the other two nodes are left
  gone : AreChained c.remove.new.self number_keying c.remove.new.p (c.args.two ∷ c.args.three ∷ [])
  gone = c.remove.ensures.list [] (c.args.two ∷ c.args.three ∷ []) c.requires.list

module _ (g : Over) (c : After-make_room g) (gone : AreChained c.remove.new.self number_keying c.remove.new.p (c.args.two ∷ c.args.three ∷ [])) where
  -- in the new room they are left too
  moved : AreChained c.make_room.new.self number_keying c.make_room.new.p (c.args.two ∷ c.args.three ∷ [])
  moved = c.make_room.ensures.list (c.args.two ∷ c.args.three ∷ []) gone

  -- and the first may stand before them again, with its stamp
  placed : IsPlaced number_keying c.make_room.new.p c.make_room.new.self.slot c.args.one c.link-stamp.result.tag.stamp [] (c.args.two ∷ c.args.three ∷ [])
  placed = let ys = c.args.two ∷ c.args.three ∷ [] in let was = c.remove.ensures.remembers [] ys c.requires.list in
      let keeps = c.make_room.ensures.keeps ys gone in
      placed_alike c.make_room.ensures.slot (record { refs = keeps.refs; values = keeps.values; tags = c.make_room.ensures.tags })
      (fits_read c.remove.ensures.slot c.requires.slot c.link-stamp.ensures was).placed

pub remove-requires : goal.remove-requires
remove-requires g c = ([], c.args.two ∷ c.args.three ∷ [], c.requires.list)

pub link-stamp-requires-clause-held : goal.link-stamp-requires-clause-held
link-stamp-requires-clause-held g c =
    let fits = c.remove.ensures.remembers [] (c.args.two ∷ c.args.three ∷ []) c.requires.list in fits.placed.held

pub link-stamp-requires-clause-slot : goal.link-stamp-requires-clause-slot
link-stamp-requires-clause-slot g c =
    let gone = gone g (goal.at.link-stamp-requires-clause-slot g c).After-remove in
    subst (λ z. z < c.remove.new.p.slots) (c.remove.ensures.slot ∙ c.requires.slot) gone.buckets.slot

pub make_room-requires : goal.make_room-requires
make_room-requires g c = (c.args.two ∷ c.args.three ∷ [], gone g (goal.at.make_room-requires g c).After-remove)

pub assert_list-requires : goal.assert_list-requires
assert_list-requires g c =
    let o = goal.at.assert_list-requires g c in (c.args.two ∷ c.args.three ∷ [], moved g o.After-make_room (gone g o.After-remove))

pub insert-requires : goal.insert-requires
insert-requires g c =
    let o = goal.at.insert-requires g c in let gone = gone g o.After-remove in
    ([], c.args.two ∷ c.args.three ∷ [], moved g o.After-make_room gone, placed g o.After-make_room gone)

pub returns-clause-list : goal.returns-clause-list
returns-clause-list g c =
    let o = goal.at.returns-clause-list g c in let gone = gone g o.After-remove in
    c.insert.ensures.list [] (c.args.two ∷ c.args.three ∷ []) (moved g o.After-make_room gone) (placed g o.After-make_room gone)
