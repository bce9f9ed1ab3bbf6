-- A side that is one level lower than its node needs no balance; sides of nearly one height need another height alone; else the two sides are balanced.
use Rattle.std.proofs.Common.{◌≡◌, max, ◌+◌, ◌-◌, ◌≤◌, Some, cond, not, refl, sym, ap, ◌∙◌, subst, arith}
use Rattle.mi_node.specs.Cells.{sided}
use Rattle.mi_node.specs.Pool.{IsHeldIf, link_of}
use Rattle.mi_tree.specs.BinaryTree.{BinaryTree, Fork, height, height_at, DifferByAtMost}
use Rattle.mi_tree.specs.Joining.{AreLinked, IsFork}
use Rattle.mi_tree.specs.Paths.{AreRebalanced, with_child_replaced}
use Rattle.mi_tree.proofs.BinaryTreeLemmas.{height-root}
use Rattle.mi_tree.proofs.RotationLemmas.{plains}
use Rattle.mi_tree.proofs.PathLemmas.{AreHigh, other_held, rebalanced_high, rebalanced_fork, rebalanced_linked, rebalanced_left, rebalanced_right}
use Rattle.mi_tree.proofs.path.rebalance.Given.{Over}
use Rattle.mi_tree.proofs.path.rebalance.Goals.{Then-high-before, After-height-beside, After-with_child-link}
use Rattle.mi_tree.proofs.path.rebalance.Goals as goal

module _ (g : Over) (c : Then-high-before g) where
  -- the node over its two sides, with the height that it has
  over : {l q : BinaryTree}
      → AreRebalanced c.args.p.now c.args.slot c.args.path_step c.args.below (link_of c.args.p.now c.args.path_step.node.name c.args.slot) l q
      → IsFork c.args.p.now c.args.slot c.args.path_step.node
      (sided c.args.path_step.left c.args.below c.args.before (link_of c.args.p.now c.args.path_step.node.name c.args.slot)) l q
      × DifferByAtMost 1 (height l) (height q)
  over {l} {q} r =
      let v = c.args in let tall = c.requires.before in
      let k = r.settled (ap (λ j. j + 1) (sym c.requires.high.0) ∙ c.if-high-before.true ∙ tall) in
      (subst (λ j. IsFork v.p.now v.slot v.path_step.node (sided v.path_step.left v.below j (link_of v.p.now v.path_step.node.name v.slot)) l q) (sym tall) k.0, k.1)

module _ (g : Over) (c : After-height-beside g) where
  -- the heights of the two sides
  tall : {l q : BinaryTree}
      → AreRebalanced c.args.p.now c.args.slot c.args.path_step c.args.below (link_of c.args.p.now c.args.path_step.node.name c.args.slot) l q
      → AreHigh c.args.p.now c.args.slot (cond (not c.args.path_step.left) (link_of c.args.p.now c.args.path_step.node.name c.args.slot).back
      (link_of c.args.p.now c.args.path_step.node.name c.args.slot).forth) l q c.args.high c.height-beside.result
  tall r = rebalanced_high r c.requires.high.0 (c.height-beside.ensures ∙ ap (height_at c.args.p.now c.args.slot) c.neighbour.ensures)

module _ (g : Over) (c : After-with_child-link g) where
  -- the node's link names and counts its two sides
  linked : {l q : BinaryTree}
      → AreRebalanced c.args.p.now c.args.slot c.args.path_step c.args.below (link_of c.args.p.now c.args.path_step.node.name c.args.slot) l q
      → AreLinked c.args.p.now c.args.slot c.args.path_step.node c.with_child-link.result l q
  linked r = rebalanced_linked r refl (c.with_child-link.ensures ∙ ap (with_child_replaced c.args.path_step.left c.args.below) c.link.ensures)

  -- the height of the side that was read
  read_high : c.height-beside.result ≡ height_at c.args.p.now c.args.slot (cond (not c.args.path_step.left)
      (link_of c.args.p.now c.args.path_step.node.name c.args.slot).back (link_of c.args.p.now c.args.path_step.node.name c.args.slot).forth)
  read_high = c.height-beside.ensures ∙ ap (height_at c.args.p.now c.args.slot) c.neighbour.ensures

pub set_side-requires-clause-parts : goal.set_side-requires-clause-parts
set_side-requires-clause-parts g c =
    let w = c.requires.sides in (w.0, w.1, (over g (goal.at.set_side-requires-clause-parts g c).Then-high-before w.2).0)

pub returns-then-high-before-clause-tree : goal.returns-then-high-before-clause-tree
returns-then-high-before-clause-tree g c l q h =
    let k = over g (goal.at.returns-then-high-before-clause-tree g c).Then-high-before h in let set = c.set_side.ensures in
    plains h.sides k.1 (set.tree l q k.0) set.keeps set.tags

pub returns-then-high-before-clause-height : goal.returns-then-high-before-clause-height
returns-then-high-before-clause-height g c =
    let w = c.requires.sides in let k = over g (goal.at.returns-then-high-before-clause-height g c).Then-high-before w.2 in
    k.0.height_is ∙ sym (height-root c.set_side.new.p c.args.slot (Some c.args.path_step.node) (Fork w.0 c.args.path_step.node w.1) (c.set_side.ensures.tree w.0 w.1 k.0))

pub height-beside-requires-clause-held : goal.height-beside-requires-clause-held
height-beside-requires-clause-held g c =
    let w = c.requires.sides in subst (IsHeldIf c.args.p.now) (sym c.neighbour.ensures) (other_held w.2)

pub overflow_add-beside : goal.overflow_add-beside
overflow_add-beside g c =
    let h = tall g (goal.at.overflow_add-beside g c).After-height-beside c.requires.sides.2 in let low = h.low in omega arith

pub set_side-requires-then-beside-high-clause-parts : goal.set_side-requires-then-beside-high-clause-parts
set_side-requires-then-beside-high-clause-parts g c =
    let w = c.requires.sides in let h = tall g (goal.at.set_side-requires-then-beside-high-clause-parts g c).After-height-beside w.2 in
    let is : c.args.high + 1 ≡ max (height w.0) (height w.1) + 1 = omega (arith, h.top_is, c.if-beside-high.true) in
    (w.0, w.1, rebalanced_fork (c.args.high + 1) w.2 refl refl is)

pub returns-then-beside-high-clause-tree : goal.returns-then-beside-high-clause-tree
returns-then-beside-high-clause-tree g c l q r =
    let h = tall g (goal.at.returns-then-beside-high-clause-tree g c).After-height-beside r in
    let is : c.args.high + 1 ≡ max (height l) (height q) + 1 = omega (arith, h.top_is, c.if-beside-high.true) in
    let fork = rebalanced_fork (c.args.high + 1) r refl refl is in
    let near : DifferByAtMost 1 c.args.high c.height-beside.result = (omega (arith, c.if-beside-high.true), omega (arith, c.if-beside-high.true)) in
    let set = c.set_side-then-beside-high.ensures in
    plains r.sides (h.near near) (set.tree l q fork) set.keeps set.tags

pub returns-then-beside-high-clause-height : goal.returns-then-beside-high-clause-height
returns-then-beside-high-clause-height g c =
    let w = c.requires.sides in let h = tall g (goal.at.returns-then-beside-high-clause-height g c).After-height-beside w.2 in
    let is : c.args.high + 1 ≡ max (height w.0) (height w.1) + 1 = omega (arith, h.top_is, c.if-beside-high.true) in
    let set = c.set_side-then-beside-high in
    is ∙ sym (height-root set.new.p c.args.slot (Some c.args.path_step.node) (Fork w.0 c.args.path_step.node w.1)
    (set.ensures.tree w.0 w.1 (rebalanced_fork (c.args.high + 1) w.2 refl refl is)))

pub overflow_add-now : goal.overflow_add-now
overflow_add-now g c =
    let h = tall g (goal.at.overflow_add-now g c).After-height-beside c.requires.sides.2 in let low = h.low in let top = c.max-now.ensures in omega arith

pub set_side-requires-then-abs_diff-le1-clause-parts : goal.set_side-requires-then-abs_diff-le1-clause-parts
set_side-requires-then-abs_diff-le1-clause-parts g c =
    let w = c.requires.sides in let h = tall g (goal.at.set_side-requires-then-abs_diff-le1-clause-parts g c).After-height-beside w.2 in
    (w.0, w.1, rebalanced_fork (c.max-now.result + 1) w.2 refl refl (ap (λ j. j + 1) (c.max-now.ensures ∙ h.top_is)))

pub returns-then-abs_diff-le1-clause-tree : goal.returns-then-abs_diff-le1-clause-tree
returns-then-abs_diff-le1-clause-tree g c l q r =
    let h = tall g (goal.at.returns-then-abs_diff-le1-clause-tree g c).After-height-beside r in
    let fork = rebalanced_fork (c.max-now.result + 1) r refl refl (ap (λ j. j + 1) (c.max-now.ensures ∙ h.top_is)) in
    let close : c.args.high - c.height-beside.result + (c.height-beside.result - c.args.high) ≤ 1 = omega (arith, c.abs_diff.ensures) in
    let near : DifferByAtMost 1 c.args.high c.height-beside.result = (omega arith, omega arith) in
    let set = c.set_side-then-abs_diff-le1.ensures in
    plains r.sides (h.near near) (set.tree l q fork) set.keeps set.tags

pub returns-then-abs_diff-le1-clause-height : goal.returns-then-abs_diff-le1-clause-height
returns-then-abs_diff-le1-clause-height g c =
    let w = c.requires.sides in let h = tall g (goal.at.returns-then-abs_diff-le1-clause-height g c).After-height-beside w.2 in
    let is = ap (λ j. j + 1) (c.max-now.ensures ∙ h.top_is) in
    let set = c.set_side-then-abs_diff-le1 in
    is ∙ sym (height-root set.new.p c.args.slot (Some c.args.path_step.node) (Fork w.0 c.args.path_step.node w.1)
    (set.ensures.tree w.0 w.1 (rebalanced_fork (c.max-now.result + 1) w.2 refl refl is)))

pub rotate-requires-clause-sides : goal.rotate-requires-clause-sides
rotate-requires-clause-sides g c =
    let w = c.requires.sides in let o = (goal.at.rotate-requires-clause-sides g c).After-with_child-link in
    let k = rebalanced_left w.2 c.if-path_step.true c.requires.high.0 (read_high g o) in (w.0, w.1, linked g o w.2, k.0, k.1)

pub rotate-requires-else-path_step-clause-sides : goal.rotate-requires-else-path_step-clause-sides
rotate-requires-else-path_step-clause-sides g c =
    let w = c.requires.sides in let o = (goal.at.rotate-requires-else-path_step-clause-sides g c).After-with_child-link in
    let k = rebalanced_right w.2 c.if-path_step.false c.requires.high.0 (read_high g o) in (w.0, w.1, linked g o w.2, k.0, k.1)
