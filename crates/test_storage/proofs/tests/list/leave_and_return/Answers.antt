-- Two nodes leave and come back, the later one first, between the neighbours that they remember.
use Rattle.std.proofs.Common.{[], ◌∷◌, ◌∙◌, subst}
use Rattle.mi_node.specs.Pool.{Keeps}
use Rattle.mi_node.proofs.KeepingLemmas.{keeps_then}
use Rattle.mi_list.specs.Listed.{slot_of, FitsBetween}
use Rattle.mi_list.proofs.FrameLemmas.{fits_again}
use Rattle.test_storage.proofs.tests.list.leave_and_return.Given.{Over}
use Rattle.test_storage.proofs.tests.list.leave_and_return.Goals.{After-relink}
use Rattle.test_storage.proofs.tests.list.leave_and_return.Goals as goal

module _ (g : Over) (c : After-relink g) where
  -- the second node fits between the first and the third again, since its link stayed
  two_fits : FitsBetween c.relink.new.self c.relink.new.p c.args.two (c.args.one ∷ []) (c.args.three ∷ [])
  two_fits =
      let xs = c.args.one ∷ [] in let ys = c.args.three ∷ [] in
      let l = c.unlink.new.self in let m = c.unlink.new.p in let n = c.unlink-2.new.p in let o = c.relink.new.p in
      let without_two = c.unlink.ensures.list xs ys c.requires in let one_alone = c.unlink-2.ensures.list xs [] without_two.listed in
      let back : Keeps n o (slot_of l) xs = subst (λ s. Keeps n o s xs) c.unlink-2.ensures.slot (c.relink.ensures.keeps xs [] one_alone) in
      let both = keeps_then (slot_of l) m n o xs xs xs (c.unlink-2.ensures.keeps xs [] without_two.listed) back (λ k out. (out, out)) in
      fits_again l c.relink.new.self m o xs c.args.two xs ys without_two both (without_two.out.0, tt) (c.relink.ensures.slot ∙ c.unlink-2.ensures.slot)
      (c.relink.ensures.list xs [] one_alone)

pub unlink-requires : goal.unlink-requires
unlink-requires g c = (c.args.one ∷ [], c.args.three ∷ [], c.requires)

pub assert_names-requires : goal.assert_names-requires
assert_names-requires g c = (c.args.one ∷ c.args.three ∷ [], (c.unlink.ensures.list (c.args.one ∷ []) (c.args.three ∷ []) c.requires).listed)

pub unlink-requires-2 : goal.unlink-requires-2
unlink-requires-2 g c = (c.args.one ∷ [], [], (c.unlink.ensures.list (c.args.one ∷ []) (c.args.three ∷ []) c.requires).listed)

pub assert_names-requires-2 : goal.assert_names-requires-2
assert_names-requires-2 g c =
    let one = c.args.one in (one ∷ [], (c.unlink-2.ensures.list (one ∷ []) [] (c.unlink.ensures.list (one ∷ []) (c.args.three ∷ []) c.requires).listed).listed)

pub relink-requires : goal.relink-requires
relink-requires g c =
    let one = c.args.one in (one ∷ [], [], c.unlink-2.ensures.list (one ∷ []) [] (c.unlink.ensures.list (one ∷ []) (c.args.three ∷ []) c.requires).listed)

pub assert_names-requires-3 : goal.assert_names-requires-3
assert_names-requires-3 g c =
    let one = c.args.one in let without_two = c.unlink.ensures.list (one ∷ []) (c.args.three ∷ []) c.requires in
    (one ∷ c.args.three ∷ [], c.relink.ensures.list (one ∷ []) [] (c.unlink-2.ensures.list (one ∷ []) [] without_two.listed))

pub relink-requires-2 : goal.relink-requires-2
relink-requires-2 g c = (c.args.one ∷ [], c.args.three ∷ [], two_fits g (goal.at.relink-requires-2 g c).After-relink)

pub returns : goal.returns
returns g c = c.relink-2.ensures.list (c.args.one ∷ []) (c.args.three ∷ []) (two_fits g (goal.at.returns g c).After-relink)
