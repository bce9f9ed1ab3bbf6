-- The node passes none of the nodes on the side to which it moves: of its own subtree there, or else of those above it.
use Rattle.std.proofs.Common.{◌≡◌, ◌∙◌, ◌∷◌, arith, cond, refl, sym, ap, subst}
use Rattle.mi_node.specs.Pool.{link_of}
use Rattle.mi_node.specs.declared.link.Link.{Link}
use Rattle.mi_tree.specs.BinaryTree.{IsRooted, height}
use Rattle.mi_tree.specs.Keeping.{side_of_item}
use Rattle.mi_tree.proofs.BinaryTreeLemmas.{same_tree}
use Rattle.mi_tree.proofs.KeepingLemmas.{item_read, path_step_is, some_of, own_side, keeps_back, keeps_forth, keeps_equal}
use Rattle.mi_tree.proofs.RemovalPathLemmas.{equal_is}
use Rattle.mi_tree.proofs.SortedLemmas.{tagged_read, tagged_right}
use Rattle.mi_tree.proofs.StandingLemmas.{bound_node, rising_in, tagged_in, node_held}
use Rattle.mi_tree.proofs.tree.Tree.keeps_place.Given.{Over}
use Rattle.mi_tree.proofs.tree.Tree.keeps_place.Goals.{After-compare_item-side, After-side_ahead-next}
use Rattle.mi_tree.proofs.tree.Tree.keeps_place.Goals as goal

module _ (g : Over) (c : After-compare_item-side g) where
  -- where the item stands beside the node
  side_found : side_of_item (g.O.NodeOrder.order c.args.self.now.order) c.args.p.now c.args.self.now.slot c.args.value.now c.args.stamp c.args.node ≡ c.compare_item-side.result
  side_found = item_read (g.O.NodeOrder.order c.args.self.now.order) (g.met.O.NodeOrder.total c.args.self.now.order) c.args.p.now c.args.self.now.slot c.args.value.now c.args.stamp
      c.args.node c.link-link.ensures c.compare_item-side.ensures.result

module _ (g : Over) (c : After-side_ahead-next g) where
  -- the node's side to which it moves
  next_is : c.side_ahead-next.result ≡ cond c.is_gt-rises.result (link_of c.args.p.now c.args.node.name c.args.self.now.slot).forth (link_of c.args.p.now c.args.node.name c.args.self.now.slot).back
  next_is = c.side_ahead-next.ensures ∙ ap (λ (z : Link). cond c.is_gt-rises.result z.forth z.back) c.link-link.ensures

pub link-link-requires-clause-held : goal.link-link-requires-clause-held
link-link-requires-clause-held g c = let w = c.requires in node_held w.0 c.args.node w.1 w.2

pub compare_item-side-requires-clause-node : goal.compare_item-side-requires-clause-node
compare_item-side-requires-clause-node g c =
    let w = c.requires in let tag = g.O.NodeOrder.tag_of c.args.self.now.order in
    tagged_read tag c.args.self.now.slot c.args.node refl (ap (λ (z : Link). z.tag) c.link-link.ensures) (node_held w.0 c.args.node w.1 w.2)
    (tagged_right tag c.args.p.now c.args.self.now.slot w.0 (c.args.node ∷ w.1) w.2.tagged).0

pub returns-then-is_eq-clause-keeps : goal.returns-then-is_eq-clause-keeps
returns-then-is_eq-clause-keeps g c xs ys h =
    let o = (goal.at.returns-then-is_eq-clause-keeps g c).After-compare_item-side in (
      λ _. keeps_equal (g.O.NodeOrder.order c.args.self.now.order) (g.met.O.NodeOrder.total c.args.self.now.order) c.args.p.now c.args.self.now.slot c.args.value.now c.args.stamp
          h.shape xs c.args.node ys h.rooted.stands (rising_in h) h.nodes_are (node_held xs c.args.node ys h)
          (side_found g o ∙ equal_is c.compare_item-side.result (sym c.is_eq.ensures ∙ c.if-is_eq.true)),
      λ _. refl,
    )

pub returns-then-is_eq-clause-steps : goal.returns-then-is_eq-clause-steps
returns-then-is_eq-clause-steps g c order tag rs h b f =
    let w = c.requires in let d = bound_node h w.0 c.args.node w.1 w.2 b f in let e = c.compare_item-side.ensures.steps in omega arith

pub passes_none-requires-clause-tree : goal.passes_none-requires-clause-tree
passes_none-requires-clause-tree g c =
    let o = (goal.at.passes_none-requires-clause-tree g c).After-side_ahead-next in
    let w = c.requires in let h = w.2 in
    let p = own_side (g.O.NodeOrder.order c.args.self.now.order) (g.met.O.NodeOrder.total c.args.self.now.order) c.args.p.now c.args.self.now.slot c.args.value.now c.args.stamp
    h.shape w.0 c.args.node w.1 h.rooted.stands (rising_in h) h.nodes_are (g.O.NodeOrder.tag_of c.args.self.now.order) c.is_gt-rises.result (tagged_in h) in
    (p.z, subst (λ k. IsRooted c.args.p.now c.args.self.now.slot k p.z) (sym (next_is g o)) p.rooted, p.rising, p.tagged)

pub returns-then-is_some-clause-keeps : goal.returns-then-is_some-clause-keeps
returns-then-is_some-clause-keeps g c xs ys h =
    let o = goal.at.returns-then-is_some-clause-keeps g c in let next = next_is g o.After-side_ahead-next in
    let p = own_side (g.O.NodeOrder.order c.args.self.now.order) (g.met.O.NodeOrder.total c.args.self.now.order) c.args.p.now c.args.self.now.slot c.args.value.now c.args.stamp
    h.shape xs c.args.node ys h.rooted.stands (rising_in h) h.nodes_are (g.O.NodeOrder.tag_of c.args.self.now.order) c.is_gt-rises.result (tagged_in h) in
    let is = c.passes_none.ensures.passes p.z (subst (λ k. IsRooted c.args.p.now c.args.self.now.slot k p.z) (sym next) p.rooted) in
    let there = some_of c.side_ahead-next.result (sym c.is_some.ensures ∙ c.if-is_some.true) in
    let path_step = side_found g o.After-compare_item-side ∙ path_step_is c.is_gt-rises.result c.compare_item-side.result c.is_gt-rises.ensures (sym c.is_eq.ensures ∙ c.if-is_eq.false) in (
      λ a. keeps_back (g.O.NodeOrder.order c.args.self.now.order) (g.met.O.NodeOrder.total c.args.self.now.order) c.args.p.now c.args.self.now.slot c.args.value.now c.args.stamp
          h.shape xs c.args.node ys h.rooted.stands (rising_in h) h.nodes_are c.is_gt-rises.result path_step (p.back there.0 (sym next ∙ there.1) (is.0 a)),
      λ k. is.1 (p.forth (keeps_forth (g.O.NodeOrder.order c.args.self.now.order) (g.met.O.NodeOrder.total c.args.self.now.order) c.args.p.now c.args.self.now.slot c.args.value.now c.args.stamp
          h.shape xs c.args.node ys h.rooted.stands (rising_in h) h.nodes_are c.is_gt-rises.result k)),
    )

pub returns-then-is_some-clause-steps : goal.returns-then-is_some-clause-steps
returns-then-is_some-clause-steps g c order tag rs h b f =
    let o = goal.at.returns-then-is_some-clause-steps g c in let next = next_is g o.After-side_ahead-next in
    let w = c.requires in let k = w.2 in
    let p = own_side (g.O.NodeOrder.order c.args.self.now.order) (g.met.O.NodeOrder.total c.args.self.now.order) c.args.p.now c.args.self.now.slot c.args.value.now c.args.stamp
    k.shape w.0 c.args.node w.1 k.rooted.stands (rising_in k) k.nodes_are (g.O.NodeOrder.tag_of c.args.self.now.order) c.is_gt-rises.result (tagged_in k) in
    let is = c.passes_none.ensures.steps p.z (subst (λ z. IsRooted c.args.p.now c.args.self.now.slot z p.z) (sym next) p.rooted) in
    let same = ap height (same_tree c.args.p.now c.args.self.now.slot c.args.self.now.root k.shape h.shape k.rooted h.rooted) in
    let d = bound_node h w.0 c.args.node w.1 k b f in let e = c.compare_item-side.ensures.steps in let low = p.low in omega arith

pub returns-else-is_some-clause-keeps : goal.returns-else-is_some-clause-keeps
returns-else-is_some-clause-keeps g c xs ys h =
    let o = goal.at.returns-else-is_some-clause-keeps g c in
    let is = c.passes_none_above.ensures.passes h.shape xs ys h.rooted h.nodes_are in
    let path_step = side_found g o.After-compare_item-side ∙ path_step_is c.is_gt-rises.result c.compare_item-side.result c.is_gt-rises.ensures (sym c.is_eq.ensures ∙ c.if-is_eq.false) in (
      λ a. keeps_back (g.O.NodeOrder.order c.args.self.now.order) (g.met.O.NodeOrder.total c.args.self.now.order) c.args.p.now c.args.self.now.slot c.args.value.now c.args.stamp
          h.shape xs c.args.node ys h.rooted.stands (rising_in h) h.nodes_are c.is_gt-rises.result path_step (is.0 a),
      λ k. is.1 (keeps_forth (g.O.NodeOrder.order c.args.self.now.order) (g.met.O.NodeOrder.total c.args.self.now.order) c.args.p.now c.args.self.now.slot c.args.value.now c.args.stamp
          h.shape xs c.args.node ys h.rooted.stands (rising_in h) h.nodes_are c.is_gt-rises.result k),
    )

pub returns-else-is_some-clause-steps : goal.returns-else-is_some-clause-steps
returns-else-is_some-clause-steps g c order tag rs h b f =
    let w = c.requires in let d = bound_node h w.0 c.args.node w.1 w.2 b f in let e = c.compare_item-side.ensures.steps in
    let is = c.passes_none_above.ensures.steps h.shape h.rooted in omega arith
