-- The nodes ahead of a rank stand on the path and in their far sides; there is room for one more on the path.
use Rattle.std.proofs.Common.{◌≡◌, ℕ, suc, ◌+◌, ◌-◌, ◌<◌, ◌≤◌, length, refl, ap, ◌∙◌, arith}
use Rattle.mi_node.specs.Pool.{Pooled}
use Rattle.mi_tree.specs.BinaryTree.{BinaryTree, IsRooted, nodes, size_at}
use Rattle.mi_tree.specs.declared.walk.TheConstants.{MAX_LEVELS}
use Rattle.mi_tree.proofs.BinaryTreeLemmas.{size-root, size-nodes, slot-moved}
use Rattle.mi_tree.proofs.WalkLemmas.{entered, enters_left, enters_right, enters_lower, goes_moved, path_left, path_right}
use Rattle.mi_tree.proofs.walk.+cut_down.Given.{Over}
use Rattle.mi_tree.proofs.walk.+cut_down.Goals.{In-Some, After-size-before}
use Rattle.mi_tree.proofs.walk.+cut_down.Goals as goal

module _ (g : Over) (t : ℕ) (c : In-Some g t) where
  -- there is room on the path for one more node
  room : length c.args.path.now.items < MAX_LEVELS
  room = (entered c.requires.way.3 c.in-Some.is refl).room

module _ (g : Over) (t : ℕ) (c : After-size-before g t) where
  -- the pool that was read is as it was at the start
  pool_is : c.size-before.new.p.pool ≡ c.args.p.now.pool
  pool_is = c.size-before.ensures.pool ∙ c.link-link.ensures.pool

  -- the count is that of the left side's nodes
  count_is : (l : BinaryTree) → IsRooted c.args.p.now.pool c.args.slot c.link-link.result.back l → c.size-before.result ≡ length (nodes l)
  count_is l h = c.size-before.ensures.size ∙ ap (λ (z : Pooled g.row.T.Denot). size_at z c.args.slot c.link-link.result.back) c.link-link.ensures.pool
      ∙ size-root c.args.p.now.pool c.args.slot c.link-link.result.back l h ∙ size-nodes l

pub push_if-requires : goal.push_if-requires
push_if-requires g t c = room g t (goal.at.push_if-requires g t c).In-Some

pub push_if-requires-else-passed-before : goal.push_if-requires-else-passed-before
push_if-requires-else-passed-before g t c = room g t (goal.at.push_if-requires-else-passed-before g t c).In-Some

pub cut_down-requires : goal.cut_down-requires
cut_down-requires g t c κs within =
    let o = goal.at.cut_down-requires g t c in let w = c.requires.way in let same = pool_is g t o.After-size-before in
    let on = entered w.3 c.in-Some.is c.link-link.ensures.link in let falls = enters_lower c.args.direction on same c.in-Some.is in
    let into = enters_left c.args.direction on same c.is_ascending.ensures c.push_if.ensures in
    (omega (arith, c.decreases, falls.0), (within, (slot-moved c.args.slot same c.requires.slot, (w.0, _, on.left, into))))

pub cut_down-requires-else-passed-before : goal.cut_down-requires-else-passed-before
cut_down-requires-else-passed-before g t c κs within =
    let o = goal.at.cut_down-requires-else-passed-before g t c in let w = c.requires.way in let same = pool_is g t o.After-size-before in
    let on = entered w.3 c.in-Some.is c.link-link.ensures.link in let falls = enters_lower c.args.direction on same c.in-Some.is in
    let into = enters_right c.args.direction on same c.is_ascending-else-passed-before.ensures c.push_if-else-passed-before.ensures in
    (omega (arith, c.decreases, falls.1), (within, (slot-moved c.args.slot same c.requires.slot, (w.0, _, on.right, into))))

pub returns-then-passed-before-clause-way : goal.returns-then-passed-before-clause-way
returns-then-passed-before-clause-way g t c levels xs u h =
    let o = goal.at.returns-then-passed-before-clause-way g t c in let same = pool_is g t o.After-size-before in let d = c.args.direction in
    let on = entered h c.in-Some.is c.link-link.ensures.link in let count = count_is g t o.After-size-before on.left on.left_is in
    let few : c.args.passed ≤ length (nodes on.left) = omega (arith, c.if-passed-before.true) in
    let far = c.cut_down.ensures.way levels _ on.left (enters_left d on same c.is_ascending.ensures c.push_if.ensures) in
    (far.0, goes_moved same far.1, path_left d on.left c.in-Some.node on.right u xs far.0 c.args.passed on.is few far.2)

pub returns-else-passed-before-clause-way : goal.returns-else-passed-before-clause-way
returns-else-passed-before-clause-way g t c levels xs u h =
    let o = goal.at.returns-else-passed-before-clause-way g t c in let same = pool_is g t o.After-size-before in let d = c.args.direction in
    let on = entered h c.in-Some.is c.link-link.ensures.link in let count = count_is g t o.After-size-before on.left on.left_is in
    let k = c.args.passed - c.size-before.result - 1 in let is : c.args.passed ≡ length (nodes on.left) + suc k = omega (arith, c.if-passed-before.false) in
    let far = c.cut_down-else-passed-before.ensures.way levels _ on.right (enters_right d on same c.is_ascending-else-passed-before.ensures
    c.push_if-else-passed-before.ensures) in
    (far.0, goes_moved same far.1, path_right d on.left c.in-Some.node on.right u xs far.0 c.args.passed k on.is is far.2)
