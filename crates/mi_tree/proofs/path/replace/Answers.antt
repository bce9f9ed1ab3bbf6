-- Where the tree that comes is as high as the one that went, it is only replaced on; else the climb goes on.
use Rattle.std.proofs.Common.{Option, Some, sym, ◌∙◌, subst}
use Rattle.mi_node.specs.Refs.{Ref}
use Rattle.mi_tree.specs.PathSteps.{path_steps}
use Rattle.mi_tree.specs.Paths.{Climbs}
use Rattle.mi_tree.proofs.BinaryTreeLemmas.{height-root, held-root}
use Rattle.mi_tree.proofs.path.replace.Goals as goal

pub height-high-requires-clause-held : goal.height-high-requires-clause-held
height-high-requires-clause-held g c = let w = c.requires.way in held-root c.args.p.now c.args.slot c.args.below w.2 w.3.rooted

pub replace_child-requires-clause-way : goal.replace_child-requires-clause-way
replace_child-requires-clause-way g c =
    let v = c.args in let m = v.p.now in let s = v.slot in let w = c.requires.way in let u = w.2 in let k = w.3 in
    let same = sym c.if-high-before.true ∙ c.height-high.ensures ∙ height-root m s v.below u k.rooted in
    let opened = subst (λ (z : Option Ref). Climbs m s v.root.now z (path_steps v.nodes.now v.depth) w.0 w.1 v.before u) c.in-Some.is k in
    (w.0, w.1, u, subst (λ j. Climbs m s v.root.now (Some c.in-Some.top) (path_steps v.nodes.now v.depth) w.0 w.1 j u) same opened)
