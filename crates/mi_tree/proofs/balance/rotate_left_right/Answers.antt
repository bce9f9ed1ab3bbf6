-- The inner side of the left one comes to stand above both nodes.
use Rattle.std.proofs.Common.{◌≡◌, true, ◌+◌, ◌-◌, ◌^◌, ◌<◌, ◌≤◌, Some, refl, sym, ap, ◌∙◌, arith}
use Rattle.mi_node.specs.declared.link.Link.{Link}
use Rattle.mi_tree.specs.BinaryTree.{BinaryTree, Fork, forks, height}
use Rattle.mi_tree.specs.Joining.{AreLinked, IsSized, Four}
use Rattle.mi_tree.proofs.BinaryTreeLemmas.{Sides, held-root, height-root}
use Rattle.mi_tree.proofs.JoinLemmas.{sized}
use Rattle.mi_tree.proofs.RotationLemmas.{Leaning, left_turn, middle_opened, left_both_put, left_boths}
use Rattle.mi_tree.proofs.balance.rotate_left_right.Given.{Over}
use Rattle.mi_tree.proofs.balance.rotate_left_right.Goals.{After-of-far}
use Rattle.mi_tree.proofs.balance.rotate_left_right.Goals as goal

module _ (g : Over) (c : After-of-far g) {l q : BinaryTree} (h : AreLinked c.args.p.now c.args.slot c.args.node c.args.link l q) where
  -- the side that is too high, opened
  turned : Leaning true c.args.p.now c.args.slot c.args.node c.args.link l q c.args.top c.args.over
  turned = left_turn h c.requires.top.0 c.requires.top.1

  -- its inner side, opened
  middle : (o : Sides c.args.p.now c.args.slot c.in-Some.middle c.link-inner.result turned.o.B)
      × Four c.args.p.now c.args.slot c.args.over.back c.args.top c.link-inner.result.back c.in-Some.middle c.link-inner.result.forth c.args.node c.args.link.forth turned.o.A o.A o.B q
  middle = middle_opened turned.three c.in-Some.is c.link-inner.ensures

  outer : c.args.outer ≡ height turned.o.A
  outer = c.requires.inner.0 ∙ turned.o.left_height

  near : IsSized c.of-near.result middle.0.A
  near = sized c.of-near.ensures middle.0.left

  far : IsSized c.of-far.result middle.0.B
  far = sized c.of-far.ensures middle.0.right

  -- no more is taken from a size than it is, and none is too large
  sizes : (c.link-inner.result.size ≤ c.args.over.size) × (c.args.over.size - c.link-inner.result.size + c.of-near.result.size < 2 ^ 32)
      × (c.args.over.size ≤ c.args.link.size) × (c.args.link.size - c.args.over.size + c.of-far.result.size < 2 ^ 32)
  sizes =
      let all = turned.size_is in let part = turned.part_is in let mid = middle.0.size_is in let whole = ap forks middle.0.is in let fits = turned.three.fits in
      let a = near in let d = far in (omega arith, omega arith, omega arith, omega arith)

pub link-inner-requires-clause-held : goal.link-inner-requires-clause-held
link-inner-requires-clause-held g c =
    let k = left_turn c.requires.sides.2 c.requires.top.0 c.requires.top.1 in (middle_opened k.three c.in-Some.is refl).0.held

pub of-near-requires-clause-held : goal.of-near-requires-clause-held
of-near-requires-clause-held g c =
    let w = c.requires.sides in let k = left_turn w.2 c.requires.top.0 c.requires.top.1 in
    let u = middle_opened k.three c.in-Some.is c.link-inner.ensures in held-root c.args.p.now c.args.slot _ u.0.A u.0.left

pub of-far-requires-clause-held : goal.of-far-requires-clause-held
of-far-requires-clause-held g c =
    let w = c.requires.sides in let k = left_turn w.2 c.requires.top.0 c.requires.top.1 in
    let u = middle_opened k.three c.in-Some.is c.link-inner.ensures in held-root c.args.p.now c.args.slot _ u.0.B u.0.right

pub overflow_add-low : goal.overflow_add-low
overflow_add-low g c =
    let w = c.requires.sides in let o = (goal.at.overflow_add-low g c).After-of-far in let low = (middle g o w.2).1.low in
    let a = outer g o w.2 in let n = near g o w.2 in let e = c.max-low.ensures in omega arith

pub overflow_add-high : goal.overflow_add-high
overflow_add-high g c =
    let w = c.requires.sides in let o = (goal.at.overflow_add-high g c).After-of-far in let low = (middle g o w.2).1.low in
    let n = far g o w.2 in let d = w.3 in let e = c.max-high.ensures in omega arith

pub overflow_add-height : goal.overflow_add-height
overflow_add-height g c =
    let w = c.requires.sides in let o = (goal.at.overflow_add-height g c).After-of-far in let low = (middle g o w.2).1.low in
    let a = outer g o w.2 in let n = near g o w.2 in let k = far g o w.2 in let d = w.3 in let e = c.max-low.ensures in let f = c.max-high.ensures in let t = c.max-height.ensures in omega arith

pub overflow_sub-before : goal.overflow_sub-before
overflow_sub-before g c = let k = sizes g (goal.at.overflow_sub-before g c).After-of-far c.requires.sides.2 in omega arith

pub overflow_add-before : goal.overflow_add-before
overflow_add-before g c = let k = sizes g (goal.at.overflow_add-before g c).After-of-far c.requires.sides.2 in omega arith

pub overflow_sub-after : goal.overflow_sub-after
overflow_sub-after g c = let k = sizes g (goal.at.overflow_sub-after g c).After-of-far c.requires.sides.2 in omega arith

pub overflow_add-after : goal.overflow_add-after
overflow_add-after g c = let k = sizes g (goal.at.overflow_add-after g c).After-of-far c.requires.sides.2 in omega arith

pub set_both-requires-clause-parts : goal.set_both-requires-clause-parts
set_both-requires-clause-parts g c =
    let w = c.requires.sides in let o = (goal.at.set_both-requires-clause-parts g c).After-of-far in let k = turned g o w.2 in let u = middle g o w.2 in
    let put = left_both_put c.of-near.result c.of-far.result k u.0 u.1 (ap (λ (y : Link). y.tag) c.link-inner.ensures) (outer g o w.2) (near g o w.2) (far g o w.2) w.3 refl refl
    (ap (λ j. j + 1) c.max-low.ensures) (ap (λ j. j + 1) c.max-high.ensures) (ap (λ j. j + 1) c.max-height.ensures) in
    (k.o.A, u.0.A, u.0.B, w.1, put)

pub returns-clause-tree : goal.returns-clause-tree
returns-clause-tree g c l q h d more =
    let o = (goal.at.returns-clause-tree g c).After-of-far in let k = turned g o h in let u = middle g o h in let a = outer g o h in
    let put = left_both_put c.of-near.result c.of-far.result k u.0 u.1 (ap (λ (y : Link). y.tag) c.link-inner.ensures) (outer g o h) (near g o h) (far g o h) d refl refl
    (ap (λ j. j + 1) c.max-low.ensures) (ap (λ j. j + 1) c.max-high.ensures) (ap (λ j. j + 1) c.max-height.ensures) in
    let inside = k.o.right_height in let higher : height k.o.A < height k.o.B = omega (arith, c.requires.inner.1) in
    let set = c.set_both.ensures in left_boths h.sides k.o u.0 more higher (set.tree k.o.A u.0.A u.0.B q put) set.keeps set.tags

pub returns-clause-height : goal.returns-clause-height
returns-clause-height g c =
    let w = c.requires.sides in let o = (goal.at.returns-clause-height g c).After-of-far in let k = turned g o w.2 in let u = middle g o w.2 in
    let put = left_both_put c.of-near.result c.of-far.result k u.0 u.1 (ap (λ (y : Link). y.tag) c.link-inner.ensures) (outer g o w.2) (near g o w.2) (far g o w.2) w.3 refl refl
    (ap (λ j. j + 1) c.max-low.ensures) (ap (λ j. j + 1) c.max-high.ensures) (ap (λ j. j + 1) c.max-height.ensures) in
    put.whole.height_is ∙ sym (height-root c.set_both.new.p c.args.slot (Some c.in-Some.middle) (Fork (Fork k.o.A c.args.top u.0.A) c.in-Some.middle (Fork u.0.B c.args.node w.1)) (c.set_both.ensures.tree k.o.A u.0.A u.0.B w.1 put))
