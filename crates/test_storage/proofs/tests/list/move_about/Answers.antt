-- Each node that is moved stands in the list, and so does the one before which it goes.
use Rattle.std.proofs.Common.{ℕ, [], ◌∷◌, refl, sym, subst, inl, inr}
use Rattle.mi_node.specs.Pool.{Pooled}
use Rattle.mi_list.specs.Listed.{IsListed}
use Rattle.mi_list.specs.declared.list.List.{List}
use Rattle.test_storage.proofs.tests.list.move_about.Given.{Over}
use Rattle.test_storage.proofs.tests.list.move_about.Goals.{After-move_before-2}
use Rattle.test_storage.proofs.tests.list.move_about.Goals as goal

module _ (g : Over) (c : After-move_before-2 g) where
  -- the first node is last still once the third was moved before itself
  still : IsListed c.move_before-2.new.self c.move_before-2.new.p (c.args.two ∷ c.args.three ∷ c.args.one ∷ [])
  still =
      let two_three = c.args.two ∷ c.args.three ∷ [] in let itself = c.move_before-2.ensures.itself refl in
      subst (λ (z : List × Pooled ℕ). IsListed z.0 z.1 (c.args.two ∷ c.args.three ∷ c.args.one ∷ [])) (λ i. (sym itself.0 i, sym itself.1 i))
      (c.move_before.ensures.list [] two_three two_three [] c.requires refl refl)

pub move_before-requires : goal.move_before-requires
move_before-requires g c = let two_three = c.args.two ∷ c.args.three ∷ [] in ([], two_three, c.requires, inr (two_three, [], refl, refl))

pub assert_names-requires : goal.assert_names-requires
assert_names-requires g c =
    let two_three = c.args.two ∷ c.args.three ∷ [] in
    (c.args.two ∷ c.args.three ∷ c.args.one ∷ [], c.move_before.ensures.list [] two_three two_three [] c.requires refl refl)

pub move_before-requires-2 : goal.move_before-requires-2
move_before-requires-2 g c =
    let two_three = c.args.two ∷ c.args.three ∷ [] in
    (c.args.two ∷ [], c.args.one ∷ [], c.move_before.ensures.list [] two_three two_three [] c.requires refl refl, inl refl)

pub assert_names-requires-2 : goal.assert_names-requires-2
assert_names-requires-2 g c =
    (c.args.two ∷ c.args.three ∷ c.args.one ∷ [], still g (goal.at.assert_names-requires-2 g c).After-move_before-2)

pub move_before-requires-3 : goal.move_before-requires-3
move_before-requires-3 g c =
    let two = c.args.two in let three = c.args.three in
    (two ∷ three ∷ [], [], still g (goal.at.move_before-requires-3 g c).After-move_before-2, inr (two ∷ [], three ∷ [], refl, refl))

pub assert_names-requires-3 : goal.assert_names-requires-3
assert_names-requires-3 g c =
    let two = c.args.two in let three = c.args.three in let still = still g (goal.at.assert_names-requires-3 g c).After-move_before-2 in
    (two ∷ c.args.one ∷ three ∷ [], c.move_before-3.ensures.list (two ∷ three ∷ []) [] (two ∷ []) (three ∷ []) still refl refl)
