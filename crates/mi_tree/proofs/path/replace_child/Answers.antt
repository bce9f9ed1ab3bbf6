-- The tree at the end of the path is as high as the one before, so only the link above it is set.
use Rattle.std.proofs.Common.{◌≡◌, List, Option, Some, refl, ap, ◌∙◌}
use Rattle.mi_node.specs.Refs.{Ref}
use Rattle.mi_tree.specs.BinaryTree.{BinaryTree, height}
use Rattle.mi_node.specs.Cells.{sided}
use Rattle.mi_node.specs.Pool.{Pooled, link_of, with_link}
use Rattle.mi_node.specs.declared.link.Link.{Link}
use Rattle.mi_node.proofs.EntryLemmas.{slots-with_link}
use Rattle.mi_tree.specs.PathSteps.{path_steps}
use Rattle.mi_tree.specs.Paths.{Frame, path_of, plug, Climbs, HasClimbed}
use Rattle.mi_tree.proofs.BinaryTreeLemmas.{height-root}
use Rattle.mi_tree.proofs.PathLemmas.{IsTurned, turned_back, no_path_step, climbed_none, path_step_held, plug_height, replaced}
use Rattle.mi_tree.proofs.path.replace_child.Given.{Over}
use Rattle.mi_tree.proofs.path.replace_child.Goals.{In-Some, After-set_side}
use Rattle.mi_tree.proofs.path.replace_child.Goals as goal

module _ (g : Over) (c : In-Some g) where
  -- the path before its last step
  turned : (fs : List Frame) → (path_steps c.args.nodes.now c.args.depth) ≡ path_of fs → IsTurned fs (path_steps c.args.nodes.now c.pop.result.1) c.in-Some.path_step
  turned fs e = turned_back e c.pop.ensures.rest c.pop.ensures.value c.in-Some.is

module _ (g : Over) (c : After-set_side g) {fs : List Frame} {at : Option Ref} {u : BinaryTree} where
  -- the tree is in place
  placed : Climbs c.args.p.now c.args.slot c.args.root.now (Some c.args.top) (path_steps c.args.nodes.now c.args.depth) fs at (height u) u
      → IsTurned fs (path_steps c.args.nodes.now c.pop.result.1) c.in-Some.path_step
      → HasClimbed c.args.p.now c.set_side.new.self c.args.slot (plug fs u) c.args.root.now (plug fs u)
  placed h w =
      let m = c.args.p.now in let s = c.args.slot in let r = c.in-Some.path_step.node in
      replaced h w refl (c.set_side.ensures ∙ ap (λ j. with_link m r.name s (sided c.in-Some.path_step.left (Some c.args.top) j (link_of m r.name s)))
      (ap (λ (z : Link). z.height) c.link-height.ensures))

pub returns-in_default-clause-tree : goal.returns-in_default-clause-tree
returns-in_default-clause-tree g c fs at u h =
    (u, climbed_none h (no_path_step (path_steps c.args.nodes.now c.args.depth) _ fs h.path_is c.pop.ensures.value c.in_default.is))

pub link-height-requires-clause-held : goal.link-height-requires-clause-held
link-height-requires-clause-held g c =
    let w = c.requires.way in path_step_held w.3 (turned g (goal.at.link-height-requires-clause-held g c).In-Some w.0 w.3.path_is) refl

pub returns-clause-slots : goal.returns-clause-slots
returns-clause-slots g c =
    let v = c.args in ap (λ (z : Pooled g.row.T.Denot). z.slots) c.set_side.ensures ∙ slots-with_link v.p.now c.in-Some.path_step.node.name v.slot _

pub returns-clause-tree : goal.returns-clause-tree
returns-clause-tree g c fs at u h =
    let o = goal.at.returns-clause-tree g c in (plug fs u, placed g o.After-set_side h (turned g o.In-Some fs h.path_is))

pub returns-clause-height : goal.returns-clause-height
returns-clause-height g c fs at u h =
    let o = goal.at.returns-clause-height g c in let on = placed g o.After-set_side h (turned g o.In-Some fs h.path_is) in
    height-root c.set_side.new.self c.args.slot c.args.root.now (plug fs u) on.rooted ∙ plug_height fs u
