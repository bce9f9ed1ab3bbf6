-- The path down ends at the node, its two sides become one tree, and this takes its place.
use Rattle.std.proofs.Common.{[], List, Some, refl}
use Rattle.mi_node.specs.Refs.{Ref}
use Rattle.mi_tree.specs.BinaryTree.{BinaryTree, nodes}
use Rattle.mi_tree.specs.Sorted.{Rising, side}
use Rattle.mi_tree.specs.Paths.{Frame, Sinks, HasSunk}
use Rattle.mi_tree.specs.PathSteps.{path_steps}
use Rattle.mi_tree.proofs.RemovalPathLemmas.{sinks_start, held_here, height_here, ends_here, climbs_away, has_left}
use Rattle.mi_tree.proofs.change.take_out.Given.{Over}
use Rattle.mi_tree.proofs.change.take_out.Goals.{After-descend_to-depth}
use Rattle.mi_tree.proofs.change.take_out.Goals as goal

module _ (g : Over) (c : After-descend_to-depth g) {t : BinaryTree} {xs ys : List Ref} where
  -- it ends at the node
  end : Sinks c.args.p.now c.args.slot [] c.args.root [] t xs c.args.node ys xs ys
      → Rising (side (g.O.NodeOrder.order c.args.order.now) c.args.p.now c.args.slot) (nodes t) → (gs : List Frame) × (A : BinaryTree) × (B : BinaryTree)
      × HasSunk c.args.p.now c.descend_to-depth.new.p c.args.slot (path_steps c.descend_to-depth.new.nodes c.descend_to-depth.result) xs c.args.node ys xs ys t gs A B
  end at up = c.descend_to-depth.ensures.way [] t xs ys xs ys at up

pub descend_to-depth-requires-clause-way : goal.descend_to-depth-requires-clause-way
descend_to-depth-requires-clause-way g c =
    let w = c.requires.tree in
    ([], w.0, w.1, w.2, w.1, w.2, sinks_start w.3 w.6, w.4, w.5)

pub link-link-requires-clause-held : goal.link-link-requires-clause-held
link-link-requires-clause-held g c =
    let at = goal.at.link-link-requires-clause-held g c in let w = c.requires.tree in
    held_here w.3 w.6 (end g at.After-descend_to-depth (sinks_start w.3 w.6) w.4).3 refl

pub append-below-requires-clause-ends : goal.append-below-requires-clause-ends
append-below-requires-clause-ends g c =
    let at = goal.at.append-below-requires-clause-ends g c in let w = c.requires.tree in
    let far = end g at.After-descend_to-depth (sinks_start w.3 w.6) w.4 in
    (far.1, far.2, ends_here w.3 w.6 far.3 c.link-link.ensures)

pub replace-requires-clause-way : goal.replace-requires-clause-way
replace-requires-clause-way g c =
    let at = goal.at.replace-requires-clause-way g c in let w = c.requires.tree in let i = c.link-link.ensures in
    let far = end g at.After-descend_to-depth (sinks_start w.3 w.6) w.4 in
    let whole = c.append-below.ensures.tree far.1 far.2 (ends_here w.3 w.6 far.3 i) in
    (far.0, Some c.args.node, whole.0, climbs_away w.3 w.6 far.3 i whole.1 (height_here w.3 w.6 far.3 i))

pub returns-clause-tree : goal.returns-clause-tree
returns-clause-tree g c t xs ys can up e =
    let at = goal.at.returns-clause-tree g c in let i = c.link-link.ensures in let far = end g at.After-descend_to-depth (sinks_start can e) up in
    let whole = c.append-below.ensures.tree far.1 far.2 (ends_here can e far.3 i) in let same = height_here can e far.3 i in
    let high = climbs_away can e far.3 i whole.1 same in let all = c.replace.ensures.tree far.0 (Some c.args.node) whole.0 high in
    (all.0, has_left can e far.3 i whole.1 same all.1 (c.replace.ensures.height far.0 (Some c.args.node) whole.0 high))
