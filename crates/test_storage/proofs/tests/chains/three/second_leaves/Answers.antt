-- The second node leaves and comes back between the two that its link names.
use Rattle.std.proofs.Common.{◌<◌, [], ◌∷◌, ◌∙◌, subst}
use Rattle.mi_chain.specs.Chained.{AreChained, FitsBetween}
use Rattle.test_storage.specs.Numbered.{number_keying}
use Rattle.test_storage.proofs.ThreeNodeLemmas.{fits_read}
use Rattle.test_storage.proofs.tests.chains.three.second_leaves.Given.{Over}
use Rattle.test_storage.proofs.tests.chains.three.second_leaves.Goals.{After-remove, After-link-remembered}
use Rattle.test_storage.proofs.tests.chains.three.second_leaves.Goals as goal

module _ (g : Over) (c : After-remove g) where
  -- the first node and the third are left
  gone : AreChained c.remove.new.self number_keying c.remove.new.p (c.args.one ∷ c.args.three ∷ [])
  gone = c.remove.ensures.list (c.args.one ∷ []) (c.args.three ∷ []) c.requires.list

module _ (g : Over) (c : After-link-remembered g) where
  -- the second fits between them, by the link that was read
  fits : FitsBetween number_keying c.remove.new.p c.remove.new.self.slot c.args.two c.link-remembered.result (c.args.one ∷ []) (c.args.three ∷ [])
  fits = fits_read c.remove.ensures.slot c.requires.slot c.link-remembered.ensures
      (c.remove.ensures.remembers (c.args.one ∷ []) (c.args.three ∷ []) c.requires.list)

pub remove-requires : goal.remove-requires
remove-requires g c = (c.args.one ∷ [], c.args.three ∷ [], c.requires.list)

pub assert_list-requires : goal.assert_list-requires
assert_list-requires g c = (c.args.one ∷ c.args.three ∷ [], gone g (goal.at.assert_list-requires g c).After-remove)

pub link-remembered-requires-clause-held : goal.link-remembered-requires-clause-held
link-remembered-requires-clause-held g c =
    let was = c.remove.ensures.remembers (c.args.one ∷ []) (c.args.three ∷ []) c.requires.list in was.placed.held

pub link-remembered-requires-clause-slot : goal.link-remembered-requires-clause-slot
link-remembered-requires-clause-slot g c =
    let gone = gone g (goal.at.link-remembered-requires-clause-slot g c).After-remove in
    subst (λ z. z < c.remove.new.p.slots) (c.remove.ensures.slot ∙ c.requires.slot) gone.buckets.slot

pub relink-requires : goal.relink-requires
relink-requires g c =
    let o = goal.at.relink-requires g c in (c.args.one ∷ [], c.args.three ∷ [], gone g o.After-remove, fits g o.After-link-remembered)

pub returns-clause-list : goal.returns-clause-list
returns-clause-list g c =
    let o = goal.at.returns-clause-list g c in
    c.relink.ensures.list (c.args.one ∷ []) (c.args.three ∷ []) (gone g o.After-remove) (fits g o.After-link-remembered)
