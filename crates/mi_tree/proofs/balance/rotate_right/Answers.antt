-- The left side is at least two levels high, and one rotation makes the heights fit, or two.
use Rattle.std.proofs.Common.{◌≡◌, true, ◌+◌, ◌≤◌, Some, None, refl, sym, ap, ◌∙◌, arith}
use Rattle.mi_tree.specs.BinaryTree.{BinaryTree, Fork, height}
use Rattle.mi_tree.specs.Joining.{AreLinked, IsSized}
use Rattle.mi_tree.proofs.BinaryTreeLemmas.{moved, tip_is, held-root, height-root}
use Rattle.mi_tree.proofs.JoinLemmas.{sized}
use Rattle.mi_tree.proofs.RotationLemmas.{Leaning, left_turn, down_put, downs}
use Rattle.mi_tree.proofs.balance.rotate_right.Given.{Over}
use Rattle.mi_tree.proofs.balance.rotate_right.Goals.{After-of-inner}
use Rattle.mi_tree.proofs.balance.rotate_right.Goals as goal

module _ (g : Over) (c : After-of-inner g) where
  -- the side that is too high, opened
  turned : {l q : BinaryTree} → AreLinked c.args.p.now c.args.slot c.args.node c.args.link l q
      → Leaning true c.args.p.now c.args.slot c.args.node c.args.link l q c.in-Some.top c.link-over.result
  turned h = left_turn h c.in-Some.is c.link-over.ensures

  -- its two sides
  outer : {l q : BinaryTree} (h : AreLinked c.args.p.now c.args.slot c.args.node c.args.link l q) → c.height-outer.result ≡ height (turned h).o.A
  outer h = c.height-outer.ensures ∙ (turned h).o.left_height

  inner : {l q : BinaryTree} (h : AreLinked c.args.p.now c.args.slot c.args.node c.args.link l q) → IsSized c.of-inner.result (turned h).o.B
  inner h = sized c.of-inner.ensures (turned h).o.right

pub unreachable-requires : goal.unreachable-requires
unreachable-requires g c =
    let w = c.requires.sides in let v = c.args in let more = w.4 in
    let e = ap height (tip_is v.p.now v.slot w.0 (moved v.p.now v.p.now v.slot _ None w.0 refl c.in_default.is w.2.sides.left_is)) in omega arith

pub link-over-requires-clause-held : goal.link-over-requires-clause-held
link-over-requires-clause-held g c = (left_turn c.requires.sides.2 c.in-Some.is refl).o.held

pub height-outer-requires-clause-held : goal.height-outer-requires-clause-held
height-outer-requires-clause-held g c =
    let k = left_turn c.requires.sides.2 c.in-Some.is c.link-over.ensures in held-root c.args.p.now c.args.slot _ k.o.A k.o.left

pub of-inner-requires-clause-held : goal.of-inner-requires-clause-held
of-inner-requires-clause-held g c =
    let k = left_turn c.requires.sides.2 c.in-Some.is c.link-over.ensures in held-root c.args.p.now c.args.slot _ k.o.B k.o.right

pub overflow_add-low : goal.overflow_add-low
overflow_add-low g c =
    let w = c.requires.sides in let o = (goal.at.overflow_add-low g c).After-of-inner in let low = (turned g o w.2).three.low in
    let b = inner g o w.2 in let d = w.3 in let e = c.max-low.ensures in omega arith

pub overflow_add-high : goal.overflow_add-high
overflow_add-high g c =
    let w = c.requires.sides in let o = (goal.at.overflow_add-high g c).After-of-inner in let low = (turned g o w.2).three.low in
    let a = outer g o w.2 in let b = inner g o w.2 in let d = w.3 in let e = c.max-low.ensures in let f = c.max-high.ensures in omega arith

pub overflow_sub-below : goal.overflow_sub-below
overflow_sub-below g c =
    let w = c.requires.sides in let k = turned g (goal.at.overflow_sub-below g c).After-of-inner w.2 in let all = k.size_is in let part = k.part_is in omega arith

pub overflow_add-below : goal.overflow_add-below
overflow_add-below g c =
    let w = c.requires.sides in let o = (goal.at.overflow_add-below g c).After-of-inner in let k = turned g o w.2 in
    let all = k.size_is in let part = k.part_is in let b = inner g o w.2 in let fits = k.three.fits in omega arith

pub set_down-requires-clause-parts : goal.set_down-requires-clause-parts
set_down-requires-clause-parts g c =
    let w = c.requires.sides in let o = (goal.at.set_down-requires-clause-parts g c).After-of-inner in let k = turned g o w.2 in
    (k.o.A, k.o.B, w.1, down_put c.of-inner.result k (outer g o w.2) (inner g o w.2) w.3 refl (ap (λ j. j + 1) c.max-low.ensures) (ap (λ j. j + 1) c.max-high.ensures))

pub returns-clause-tree : goal.returns-clause-tree
returns-clause-tree g c l q h d more =
    let o = (goal.at.returns-clause-tree g c).After-of-inner in let k = turned g o h in let a = outer g o h in let b = inner g o h in
    let put = down_put c.of-inner.result k (outer g o h) (inner g o h) d refl (ap (λ j. j + 1) c.max-low.ensures) (ap (λ j. j + 1) c.max-high.ensures) in
    let higher : height k.o.B ≤ height k.o.A = omega (arith, c.if-outer-inner.false) in
    let set = c.set_down.ensures in downs h.sides k.o more higher (set.tree k.o.A k.o.B q put) set.keeps set.tags

pub returns-clause-height : goal.returns-clause-height
returns-clause-height g c =
    let w = c.requires.sides in let o = (goal.at.returns-clause-height g c).After-of-inner in let k = turned g o w.2 in
    let put = down_put c.of-inner.result k (outer g o w.2) (inner g o w.2) w.3 refl (ap (λ j. j + 1) c.max-low.ensures) (ap (λ j. j + 1) c.max-high.ensures) in
    put.high.height_is ∙ sym (height-root c.set_down.new.p c.args.slot (Some c.in-Some.top) (Fork k.o.A c.in-Some.top (Fork k.o.B c.args.node w.1)) (c.set_down.ensures.tree k.o.A k.o.B w.1 put))
