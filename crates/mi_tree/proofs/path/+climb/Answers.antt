-- The last step is rebalanced with what came from below; where its height stays, the rest is only linked.
use Rattle.std.proofs.Common.{◌≡◌, ℕ, ◌+◌, ◌<◌, List, Option, Some, refl, sym, ◌∙◌, ap, subst, arith}
use Rattle.mi_node.specs.Refs.{Ref}
use Rattle.mi_node.specs.declared.link.Link.{Link}
use Rattle.mi_tree.specs.BinaryTree.{BinaryTree, height_at}
use Rattle.mi_tree.specs.PathSteps.{path_steps}
use Rattle.mi_tree.specs.Paths.{Frame, path_of, plug, Climbs}
use Rattle.mi_tree.proofs.PathLemmas.{IsTurned, NextClimb, turned_back, no_path_step, climbed_none, path_step_held, shorter_path, climb_given, low_below}
use Rattle.mi_tree.proofs.PathLemmas.{next_climb, same_climbs, same_level, climbed_here, level_here}
use Rattle.mi_tree.proofs.path.+climb.Given.{Over}
use Rattle.mi_tree.proofs.path.+climb.Goals.{In-Some, After-rebalance-now}
use Rattle.mi_tree.proofs.path.+climb.Goals as goal

module _ (g : Over) (t : ℕ) (c : In-Some g t) where
  -- the path before its last step
  turned : {fs : List Frame} → (path_steps c.args.nodes.now c.args.depth) ≡ path_of fs → IsTurned fs (path_steps c.args.nodes.now c.pop.result.1) c.in-Some.path_step
  turned e = turned_back e c.pop.ensures.rest c.pop.ensures.value c.in-Some.is

module _ (g : Over) (t : ℕ) (c : After-rebalance-now g t) where
  -- the step up to the node of that step, for each path that the steps may stand for
  next : {fs : List Frame} {at : Option Ref} {h : ℕ} {u : BinaryTree} → Climbs c.args.p.now c.args.slot c.args.root.now c.args.below (path_steps c.args.nodes.now c.args.depth) fs at h u
      → NextClimb c.args.p.now c.rebalance-now.new.p c.args.slot c.args.root.now (path_steps c.args.nodes.now c.pop.result.1) fs h u c.in-Some.path_step c.link-before.result.height
      c.rebalance-now.result.0
  next k = next_climb k (turned_back k.path_is c.pop.ensures.rest c.pop.ensures.value c.in-Some.is) refl
      (ap (λ (x : Link). x.height) c.link-before.ensures) c.rebalance-now.ensures.tree

pub returns-in_default-clause-tree : goal.returns-in_default-clause-tree
returns-in_default-clause-tree g t c fs at h u k =
    (u, climbed_none k (no_path_step (path_steps c.args.nodes.now c.args.depth) _ fs k.path_is c.pop.ensures.value c.in_default.is))

pub link-before-requires-clause-held : goal.link-before-requires-clause-held
link-before-requires-clause-held g t c =
    let k = c.requires.way.4 in path_step_held k (turned g t (goal.at.link-before-requires-clause-held g t c).In-Some k.path_is) refl

pub rebalance-now-requires-clause-high : goal.rebalance-now-requires-clause-high
rebalance-now-requires-clause-high g t c =
    let k = c.requires.way.4 in let low = low_below k (turned g t (goal.at.rebalance-now-requires-clause-high g t c).In-Some k.path_is) refl in
    (c.requires.high, subst (λ j. j + 1 < 256) (sym c.requires.high) low)

pub rebalance-now-requires-clause-before : goal.rebalance-now-requires-clause-before
rebalance-now-requires-clause-before g t c = ap (λ (x : Link). x.height) c.link-before.ensures

pub rebalance-now-requires-clause-sides : goal.rebalance-now-requires-clause-sides
rebalance-now-requires-clause-sides g t c =
    let k = c.requires.way.4 in climb_given k (turned g t (goal.at.rebalance-now-requires-clause-sides g t c).In-Some k.path_is) refl

pub replace_child-requires-clause-way : goal.replace_child-requires-clause-way
replace_child-requires-clause-way g t c =
    let on = next g t (goal.at.replace_child-requires-clause-way g t c).After-rebalance-now c.requires.way.4 in
    (on.rest, Some c.in-Some.path_step.node, on.z, same_climbs on (sym c.if-now-before.false ∙ c.rebalance-now.ensures.height))

pub climb-requires : goal.climb-requires
climb-requires g t c κs within =
    let o = goal.at.climb-requires g t c in let k = c.requires.way.4 in let on = next g t o.After-rebalance-now k in
    let falls = shorter_path {fs = c.requires.way.0} k.path_is (turned g t o.In-Some k.path_is) in (
      omega (arith, c.decreases, falls),
      (
        within,
        (
          subst (λ j. c.args.slot < j) (sym c.rebalance-now.ensures.slots) c.requires.slot,
          (c.rebalance-now.ensures.height, (c.pop.ensures.bits, (on.rest, Some c.in-Some.path_step.node, _, on.z, on.climbs))),
        ),
      ),
    )

pub returns-else-name-clause-tree : goal.returns-else-name-clause-tree
returns-else-name-clause-tree g t c fs at h u k =
    let on = next g t (goal.at.returns-else-name-clause-tree g t c).After-rebalance-now k in
    let same = sym c.name.ensures ∙ c.if-name.false ∙ c.name-name.ensures in
    (plug on.rest on.z, climbed_here on (sym c.if-now-before.false ∙ c.rebalance-now.ensures.height) same)

pub returns-then-name-clause-tree : goal.returns-then-name-clause-tree
returns-then-name-clause-tree g t c fs at h u k =
    let on = next g t (goal.at.returns-then-name-clause-tree g t c).After-rebalance-now k in
    let all = c.replace_child.ensures.tree _ _ _ (same_climbs on (sym c.if-now-before.false ∙ c.rebalance-now.ensures.height)) in
    (all.0, on.climbed c.replace_child.new.p c.replace_child.new.root all.0 all.1)

pub returns-then-now-before-clause-tree : goal.returns-then-now-before-clause-tree
returns-then-now-before-clause-tree g t c fs at h u k =
    let on = next g t (goal.at.returns-then-now-before-clause-tree g t c).After-rebalance-now k in
    let all = c.climb.ensures.tree _ _ _ _ on.climbs in
    (all.0, on.climbed c.climb.new.p c.climb.new.root all.0 all.1)

pub returns-else-name-clause-height : goal.returns-else-name-clause-height
returns-else-name-clause-height g t c fs at h u k =
    let on = next g t (goal.at.returns-else-name-clause-height g t c).After-rebalance-now k in
    let same = sym c.name.ensures ∙ c.if-name.false ∙ c.name-name.ensures in
    level_here on (sym c.if-now-before.false ∙ c.rebalance-now.ensures.height) same

pub returns-then-name-clause-height : goal.returns-then-name-clause-height
returns-then-name-clause-height g t c fs at h u k =
    let on = next g t (goal.at.returns-then-name-clause-height g t c).After-rebalance-now k in
    let same = sym c.if-now-before.false ∙ c.rebalance-now.ensures.height in
    same_level on same (height_at c.replace_child.new.p c.args.slot c.replace_child.new.root) (c.replace_child.ensures.height _ _ _ (same_climbs on same))

pub returns-then-now-before-clause-height : goal.returns-then-now-before-clause-height
returns-then-now-before-clause-height g t c fs at h u k =
    let on = next g t (goal.at.returns-then-now-before-clause-height g t c).After-rebalance-now k in
    on.level (height_at c.climb.new.p c.args.slot c.climb.new.root) (c.climb.ensures.height _ _ _ _ on.climbs)
