-- Each step to the left is a step of a path on which sizes have fallen by one.
use Rattle.std.proofs.Common.{◌≡◌, ℕ, ◌-◌, ◌<◌, List, [], Some, refl, sym, ap, ◌∙◌, subst, arith}
use Rattle.mi_node.specs.Pool.{with_link}
use Rattle.mi_node.specs.Refs.{Ref}
use Rattle.mi_node.specs.declared.link.Link.{Link}
use Rattle.mi_tree.specs.BinaryTree.{BinaryTree, Tip}
use Rattle.mi_tree.specs.PathSteps.{path_steps}
use Rattle.mi_tree.specs.Paths.{Frame, Sinks}
use Rattle.mi_tree.proofs.PathLemmas.{sized_link}
use Rattle.mi_tree.proofs.RemovalPathLemmas.{NextSink, sunk_first, keeps_here, room_here, next_first}
use Rattle.mi_tree.proofs.path.+descend_first.Given.{Over}
use Rattle.mi_tree.proofs.path.+descend_first.Goals.{After-set_size, After-push-deeper}
use Rattle.mi_tree.proofs.path.+descend_first.Goals as goal

module _ (g : Over) (t : ℕ) (c : After-set_size g t) where
  -- the size alone is set, to one less than it was
  set : c.set_size.new.self ≡ with_link c.args.p.now c.args.at.name c.args.slot (sized_link (c.link-link.result.size - 1) c.link-link.result)
  set = c.set_size.ensures
      ∙ ap (λ (z : Link). with_link c.args.p.now c.args.at.name c.args.slot (sized_link (c.link-link.result.size - 1) z)) (sym c.link-link.ensures)

module _ (g : Over) (t : ℕ) (c : After-push-deeper g t) where
  -- the step down from the node here, for each path that the steps may stand for
  next : {fs : List Frame} {u : BinaryTree} {x : Ref} {ys vs ws : List Ref}
      → Sinks c.args.p.now c.args.slot (path_steps c.args.nodes.now c.args.depth) (Some c.args.at) fs u [] x ys vs ws
      → NextSink c.args.p.now c.set_size.new.self c.args.slot (path_steps c.push-deeper.new.nodes c.push-deeper.result) (Some c.args.at) (Some c.in-Some.left) fs u [] x ys vs ws []
  next h = next_first h refl c.link-link.ensures (c.set_size.ensures
      ∙ ap (λ (z : Link). with_link c.args.p.now c.args.at.name c.args.slot (sized_link (c.link-link.result.size - 1) z)) (sym c.link-link.ensures)) c.in-Some.is refl c.push-deeper.ensures.items

pub returns-in_default-clause-way : goal.returns-in_default-clause-way
returns-in_default-clause-way g t c fs u x ys vs ws h =
    let v = c.args in sunk_first v.p.now v.slot (path_steps v.nodes.now v.depth) v.at fs u x ys vs ws h c.link-link.result c.link-link.ensures c.in_default.is

pub push-deeper-requires-clause-room : goal.push-deeper-requires-clause-room
push-deeper-requires-clause-room g t c =
    room_here c.requires.way.6 refl c.link-link.ensures (set g t (goal.at.push-deeper-requires-clause-room g t c).After-set_size)

pub descend_first-requires : goal.descend_first-requires
descend_first-requires g t c κs within =
    let w = c.requires.way in let on = next g t (goal.at.descend_first-requires g t c).After-push-deeper w.6 in
    let slots = subst (λ j. c.args.slot < j) (sym (keeps_here w.6 refl c.link-link.ensures (set g t (goal.at.descend_first-requires g t c).After-set_size)).slots) c.requires.slot in
    (omega (arith, c.decreases, on.lower), (within, (slots, (c.push-deeper.ensures.bits, (on.gs, on.sub, w.2, on.zs, w.4, w.5, on.sinks)))))

pub returns-clause-slots : goal.returns-clause-slots
returns-clause-slots g t c = c.descend_first.ensures.slots ∙ (keeps_here c.requires.way.6 refl c.link-link.ensures (set g t (goal.at.returns-clause-slots g t c).After-set_size)).slots

pub returns-clause-way : goal.returns-clause-way
returns-clause-way g t c fs u x ys vs ws h =
    let on = next g t (goal.at.returns-clause-way g t c).After-push-deeper h in
    let far = c.descend_first.ensures.way on.gs on.sub x on.zs vs ws on.sinks in
    (far.0, far.1, far.2, on.sunk c.descend_first.new.p (path_steps c.descend_first.new.nodes c.descend_first.result) far.1 Tip far.2 far.3)
