-- The path down to the left ends at the first node, and the climb puts its right side in its place.
use Rattle.std.proofs.Common.{◌≡◌, [], ◌∷◌, List, Some, refl, sym, ap, ◌∙◌, subst}
use Rattle.mi_node.specs.Pool.{link_of, IsHeld}
use Rattle.mi_node.specs.Refs.{Ref}
use Rattle.mi_tree.specs.BinaryTree.{BinaryTree, Fork, Tip, height}
use Rattle.mi_tree.specs.Paths.{Frame, Sinks, HasSunk}
use Rattle.mi_tree.specs.PathSteps.{path_steps}
use Rattle.mi_tree.proofs.BinaryTreeLemmas.{held-root}
use Rattle.mi_tree.proofs.RemovalPathLemmas.{some_first, sinks_start, held_here, ends_here, alone_right, climbs_away, has_left}
use Rattle.mi_tree.proofs.RemoveLemmas.{root_taken}
use Rattle.mi_tree.proofs.change.take_first.Given.{Over}
use Rattle.mi_tree.proofs.change.take_first.Goals.{After-descend_first-depth}
use Rattle.mi_tree.proofs.change.take_first.Goals as goal

module _ (g : Over) (c : After-descend_first-depth g) {t : BinaryTree} {x : Ref} {ys : List Ref} where
  -- it ends at the first node
  end : Sinks c.args.p.now c.args.slot [] (Some c.args.root) [] t [] x ys [] ys
      → (c.descend_first-depth.new.first ≡ x) × (gs : List Frame) × (B : BinaryTree)
      × HasSunk c.args.p.now c.descend_first-depth.new.p c.args.slot (path_steps c.descend_first-depth.new.nodes c.descend_first-depth.result) [] x ys [] ys t gs Tip B
  end at = c.descend_first-depth.ensures.way [] t x ys [] ys at

pub descend_first-depth-requires-clause-way : goal.descend_first-depth-requires-clause-way
descend_first-depth-requires-clause-way g c =
    let w = c.requires.tree in let f = some_first c.args.p.now c.args.slot c.args.root w.0 w.1 in
    ([], w.0, f.0, f.1, [], f.1, sinks_start w.1 f.2)

pub link-link-requires-clause-held : goal.link-link-requires-clause-held
link-link-requires-clause-held g c =
    let at = goal.at.link-link-requires-clause-held g c in let w = c.requires.tree in let f = some_first c.args.p.now c.args.slot c.args.root w.0 w.1 in
    let far = end g at.After-descend_first-depth (sinks_start w.1 f.2) in
    subst (IsHeld c.descend_first-depth.new.p) (sym far.0) (held_here w.1 f.2 far.3 refl)

pub height-high-requires-clause-held : goal.height-high-requires-clause-held
height-high-requires-clause-held g c =
    let at = goal.at.height-high-requires-clause-held g c in let h = c.requires.tree.1 in let f = some_first c.args.p.now c.args.slot c.args.root _ h in
    let far = end g at.After-descend_first-depth (sinks_start h f.2) in
    let i = c.link-link.ensures ∙ ap (λ (z : Ref). link_of c.descend_first-depth.new.p z.name c.args.slot) far.0 in
    held-root c.descend_first-depth.new.p c.args.slot c.link-link.result.forth far.2 (ends_here h f.2 far.3 i).right_is

pub climb-requires-clause-way : goal.climb-requires-clause-way
climb-requires-clause-way g c =
    let at = goal.at.climb-requires-clause-way g c in let h = c.requires.tree.1 in let f = some_first c.args.p.now c.args.slot c.args.root _ h in
    let far = end g at.After-descend_first-depth (sinks_start h f.2) in
    let i = c.link-link.ensures ∙ ap (λ (z : Ref). link_of c.descend_first-depth.new.p z.name c.args.slot) far.0 in
    (far.1, Some f.0, height (Fork Tip f.0 far.2), far.2, climbs_away h f.2 far.3 i (alone_right h f.2 far.3 i refl) refl)

pub returns-clause-tree : goal.returns-clause-tree
returns-clause-tree g c t h =
    let at = goal.at.returns-clause-tree g c in let f = some_first c.args.p.now c.args.slot c.args.root t h in
    let far = end g at.After-descend_first-depth (sinks_start h f.2) in
    let i = c.link-link.ensures ∙ ap (λ (z : Ref). link_of c.descend_first-depth.new.p z.name c.args.slot) far.0 in
    let alone = alone_right h f.2 far.3 i refl in let up = climbs_away h f.2 far.3 i alone refl in
    let all = c.climb.ensures.tree far.1 (Some f.0) _ far.2 up in
    let left = has_left h f.2 far.3 i alone refl all.1 (c.climb.ensures.height far.1 (Some f.0) _ far.2 up) in
    (all.0, f.1, f.2 ∙ ap (λ (z : Ref). z ∷ f.1) (sym far.0), left)

pub link-at-requires-clause-held : goal.link-at-requires-clause-held
link-at-requires-clause-held g c = let w = c.requires.tree in held-root c.args.p.now c.args.slot (Some c.args.root) w.0 w.1.rooted

pub returns-in_default-clause-tree : goal.returns-in_default-clause-tree
returns-in_default-clause-tree g c t h = root_taken t h c.link-at.ensures c.in_default.is
