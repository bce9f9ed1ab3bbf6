-- Each step down is a step of a path on which sizes have grown by one, towards where the node belongs.
use Rattle.std.proofs.Common.{◌≡◌, ℕ, ◌+◌, ◌<◌, List, refl, sym, ap, ◌∙◌, subst, arith}
use Rattle.mi_node.specs.Pool.{link_of, with_link}
use Rattle.mi_node.specs.declared.link.Link.{Link}
use Rattle.mi_tree.specs.BinaryTree.{BinaryTree}
use Rattle.mi_tree.specs.Sorted.{side}
use Rattle.mi_tree.specs.PathSteps.{path_steps}
use Rattle.mi_tree.specs.Paths.{Frame, Falls}
use Rattle.mi_tree.proofs.SortedLemmas.{side_read, tagged_read}
use Rattle.mi_tree.proofs.PathLemmas.{sized_link, NextFall, fallen_none, here_tagged, room_here, keeps_here, same_tag, next_fall}
use Rattle.mi_tree.proofs.path.+descend_insert.Given.{Over}
use Rattle.mi_tree.proofs.path.+descend_insert.Goals.{After-set_size, After-push-deeper}
use Rattle.mi_tree.proofs.path.+descend_insert.Goals as goal

module _ (g : Over) (t : ℕ) (c : After-set_size g t) where
  -- the size alone is set, to one more than it was
  set : c.set_size.new.self ≡ with_link c.args.p.now c.in-Some.here.name c.args.slot
      (sized_link ((link_of c.args.p.now c.in-Some.here.name c.args.slot).size + 1) (link_of c.args.p.now c.in-Some.here.name c.args.slot))
  set = c.set_size.ensures ∙ ap (λ (z : Link). with_link c.args.p.now c.in-Some.here.name c.args.slot
      (sized_link (z.size + 1) (link_of c.args.p.now c.in-Some.here.name c.args.slot))) c.link-link.ensures

module _ (g : Over) (t : ℕ) (c : After-push-deeper g t) where
  -- the step down from the node here, for each path that the steps may stand for
  next : {fs : List Frame} {u : BinaryTree}
      → Falls c.args.p.now c.args.slot (side (g.O.NodeOrder.order c.args.order.now) c.args.p.now c.args.slot) (g.O.NodeOrder.tag_of c.args.order.now)
      (path_steps c.args.nodes.now c.args.depth) c.args.at c.args.node fs u
      → NextFall c.args.p.now c.set_size.new.self c.args.slot (g.O.NodeOrder.order c.args.order.now) (g.O.NodeOrder.tag_of c.args.order.now)
      (path_steps c.push-deeper.new.nodes c.push-deeper.result) c.args.at c.neighbour-next.result c.args.node fs u
  next h =
      let side_found = side_read (g.O.NodeOrder.order c.args.order.now) c.args.slot c.args.node c.in-Some.here c.new.ensures.pool c.requires.tag
      (ap (λ (k : Link). k.tag) c.link-seen.ensures) refl in
      next_fall (g.met.O.NodeOrder.total c.args.order.now) h c.in-Some.is refl (c.set_size.ensures ∙ ap (λ (z : Link). with_link c.args.p.now c.in-Some.here.name c.args.slot
      (sized_link (z.size + 1) (link_of c.args.p.now c.in-Some.here.name c.args.slot))) c.link-link.ensures) side_found c.is_before-left.ensures.result
      c.push-deeper.ensures.items c.neighbour-next.ensures

pub returns-in_default-clause-way : goal.returns-in_default-clause-way
returns-in_default-clause-way g t c fs u h = (fs, fallen_none h c.in_default.is)

pub is_before-left-requires-clause-right : goal.is_before-left-requires-clause-right
is_before-left-requires-clause-right g t c =
    let v = c.args in let i = c.link-seen.ensures in
    let on = here_tagged (g.met.O.NodeOrder.total v.order.now) c.requires.way.2 c.in-Some.is i refl in
    tagged_read (g.O.NodeOrder.tag_of v.order.now) v.slot c.in-Some.here c.new.ensures.pool (ap (λ (k : Link). k.tag) i) on.0 on.1.0

pub push-deeper-requires-clause-room : goal.push-deeper-requires-clause-room
push-deeper-requires-clause-room g t c =
    room_here (g.met.O.NodeOrder.total c.args.order.now) c.requires.way.2 c.in-Some.is
    refl (set g t (goal.at.push-deeper-requires-clause-room g t c).After-set_size)

pub descend_insert-requires : goal.descend_insert-requires
descend_insert-requires g t c κs within =
    let h = c.requires.way.2 in let total = g.met.O.NodeOrder.total c.args.order.now in
    let on = next g t (goal.at.descend_insert-requires g t c).After-push-deeper h in
    let tag_is = c.requires.tag ∙ sym (same_tag total h c.in-Some.is refl (set g t (goal.at.descend_insert-requires g t c).After-set_size)) in
    let slots = subst (λ j. c.args.slot < j) (sym (keeps_here total h c.in-Some.is refl (set g t (goal.at.descend_insert-requires g t c).After-set_size)).slots) c.requires.slot in
    (omega (arith, c.decreases, on.lower), (within.0, (within.1, (slots, (tag_is, (c.requires.decided, (c.push-deeper.ensures.bits, (on.gs, on.sub, on.falls))))))))

pub returns-clause-slots : goal.returns-clause-slots
returns-clause-slots g t c =
    c.descend_insert.ensures.slots
    ∙ (keeps_here (g.met.O.NodeOrder.total c.args.order.now) c.requires.way.2 c.in-Some.is refl (set g t (goal.at.returns-clause-slots g t c).After-set_size)).slots

pub returns-clause-way : goal.returns-clause-way
returns-clause-way g t c fs u h =
    let on = next g t (goal.at.returns-clause-way g t c).After-push-deeper h in let far = c.descend_insert.ensures.way on.gs on.sub on.falls in
    (far.0, on.fallen c.descend_insert.new.p (path_steps c.descend_insert.new.nodes c.descend_insert.result) far.0 far.1)
