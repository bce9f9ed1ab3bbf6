-- Each step down is a step of a path on which sizes have fallen by one, towards the node.
use Rattle.std.proofs.Common.{◌≡◌, ℕ, ◌-◌, ◌<◌, List, ◌∷◌, None, refl, sym, ap, ◌∙◌, subst, arith}
use Rattle.mi_node.specs.Refs.{Ref}
use Rattle.mi_node.specs.Pool.{link_of, with_link}
use Rattle.mi_node.specs.declared.link.Link.{Link}
use Rattle.mi_tree.specs.BinaryTree.{BinaryTree, nodes}
use Rattle.mi_tree.specs.Sorted.{AreTagged, side, Rising}
use Rattle.mi_tree.specs.PathSteps.{path_steps}
use Rattle.mi_tree.specs.Paths.{Frame, Sinks}
use Rattle.mi_tree.proofs.BinaryTreeLemmas.{moved, tip_is}
use Rattle.mi_tree.proofs.SortedLemmas.{side_read, tagged_read, none_here, tagged_right}
use Rattle.mi_tree.proofs.RemoveLemmas.{held_in}
use Rattle.mi_tree.proofs.PathLemmas.{sized_link}
use Rattle.mi_tree.proofs.RemovalPathLemmas.{NextSink, sunk_equal, equal_is, keeps_here, tags_here, tagged_here, room_here, next_sink}
use Rattle.mi_tree.proofs.path.+descend_to.Given.{Over}
use Rattle.mi_tree.proofs.path.+descend_to.Goals.{After-compare_nodes-side, After-set_size, After-push-deeper}
use Rattle.mi_tree.proofs.path.+descend_to.Goals as goal

module _ (g : Over) (t : ℕ) (c : After-compare_nodes-side g t) where
  -- the side that was found is the one where the node that is sought stands
  side_found : side (g.O.NodeOrder.order c.args.order.now) c.args.p.now c.args.slot c.args.node c.in-Some.here ≡ c.compare_nodes-side.result
  side_found = side_read (g.O.NodeOrder.order c.args.order.now) c.args.slot c.args.node c.in-Some.here c.new.ensures.pool c.requires.tag
      (ap (λ (k : Link). k.tag) c.link-seen.ensures) c.compare_nodes-side.ensures.result

module _ (g : Over) (t : ℕ) (c : After-set_size g t) where
  -- the size alone is set, to one less than it was
  set : c.set_size.new.self ≡ with_link c.args.p.now c.in-Some.here.name c.args.slot
      (sized_link ((link_of c.args.p.now c.in-Some.here.name c.args.slot).size - 1) (link_of c.args.p.now c.in-Some.here.name c.args.slot))
  set = c.set_size.ensures ∙ ap (λ (z : Link). with_link c.args.p.now c.in-Some.here.name c.args.slot
      (sized_link (z.size - 1) (link_of c.args.p.now c.in-Some.here.name c.args.slot))) c.link-link.ensures

module _ (g : Over) (t : ℕ) (c : After-push-deeper g t)
    (found : side (g.O.NodeOrder.order c.args.order.now) c.args.p.now c.args.slot c.args.node c.in-Some.here ≡ c.compare_nodes-side.result) where
  -- the step down from the node here, for each path that the steps may stand for
  next : {fs : List Frame} {u : BinaryTree} {xs ys vs ws : List Ref}
      → Sinks c.args.p.now c.args.slot (path_steps c.args.nodes.now c.args.depth) c.args.at fs u xs c.args.node ys vs ws
      → Rising (side (g.O.NodeOrder.order c.args.order.now) c.args.p.now c.args.slot) (nodes u)
      → (us : List Ref) × (o : NextSink c.args.p.now c.set_size.new.self c.args.slot (path_steps c.push-deeper.new.nodes c.push-deeper.result) c.args.at c.neighbour-next.result fs u xs c.args.node
      ys vs ws us) × Rising (side (g.O.NodeOrder.order c.args.order.now) c.set_size.new.self c.args.slot) (nodes o.sub)
      × (AreTagged (g.O.NodeOrder.tag_of c.args.order.now) c.args.p.now c.args.slot (nodes u)
      → AreTagged (g.O.NodeOrder.tag_of c.args.order.now) c.set_size.new.self c.args.slot (nodes o.sub))
  next h rising = next_sink h c.in-Some.is refl (c.set_size.ensures ∙ ap (λ (z : Link). with_link c.args.p.now c.in-Some.here.name c.args.slot
      (sized_link (z.size - 1) (link_of c.args.p.now c.in-Some.here.name c.args.slot))) c.link-link.ensures) (g.met.O.NodeOrder.total c.args.order.now)
      (g.O.NodeOrder.tag_of c.args.order.now) found (sym c.is_eq.ensures ∙ c.if-is_eq.false) c.is_lt-left.ensures c.push-deeper.ensures.items
      c.neighbour-next.ensures rising

pub unreachable-requires : goal.unreachable-requires
unreachable-requires g t c =
    let v = c.args in let w = c.requires.way in let h = w.6 in
    none_here w.2 v.node w.3 (sym (ap nodes (tip_is v.p.now v.slot w.1 (moved v.p.now v.p.now v.slot _ None w.1 refl c.in_default.is h.can.rooted))) ∙ h.has)

pub compare_nodes-side-requires-clause-left : goal.compare_nodes-side-requires-clause-left
compare_nodes-side-requires-clause-left g t c =
    let v = c.args in let m = v.p.now in let s = v.slot in let tag = g.O.NodeOrder.tag_of v.order.now in let w = c.requires.way in let h = w.6 in
    tagged_read tag s v.node c.new.ensures.pool c.requires.tag (held_in m s w.1 w.2 v.node w.3 h.has h.can.rooted.stands)
    (tagged_right tag m s w.2 (v.node ∷ w.3) (subst (AreTagged tag m s) h.has w.8)).0

pub compare_nodes-side-requires-clause-right : goal.compare_nodes-side-requires-clause-right
compare_nodes-side-requires-clause-right g t c =
    let tag = g.O.NodeOrder.tag_of c.args.order.now in let w = c.requires.way in let h = w.6 in let i = c.link-seen.ensures in
    let on = tagged_here tag h.can c.in-Some.is i w.8 in
    tagged_read tag c.args.slot c.in-Some.here c.new.ensures.pool (ap (λ (k : Link). k.tag) i) on.0 on.1.0

pub returns-then-is_eq-clause-way : goal.returns-then-is_eq-clause-way
returns-then-is_eq-clause-way g t c fs u xs ys vs ws h r =
    let found = side_found g t (goal.at.returns-then-is_eq-clause-way g t c).After-compare_nodes-side in
    let on = sunk_equal (g.met.O.NodeOrder.total c.args.order.now) h r c.in-Some.is
    (found ∙ equal_is c.compare_nodes-side.result (sym c.is_eq.ensures ∙ c.if-is_eq.true)) in
    (fs, on.0, on.1, on.2)

pub push-deeper-requires-clause-room : goal.push-deeper-requires-clause-room
push-deeper-requires-clause-room g t c =
    room_here c.requires.way.6 c.in-Some.is refl (set g t (goal.at.push-deeper-requires-clause-room g t c).After-set_size)

pub descend_to-requires : goal.descend_to-requires
descend_to-requires g t c κs within =
    let o = goal.at.descend_to-requires g t c in let w = c.requires.way in let now = set g t o.After-set_size in
    let on = next g t o.After-push-deeper (side_found g t o.After-compare_nodes-side) w.6 w.7 in let k = on.1 in
    let tag_is = c.requires.tag ∙ sym (tags_here w.6 c.in-Some.is refl now c.args.node.name) in
    let slots = subst (λ j. c.args.slot < j) (sym (keeps_here w.6 c.in-Some.is refl now).slots) c.requires.slot in
    let decided = c.requires.decided in
    (omega (arith, c.decreases, k.lower), (within.0, (within.1, (slots, (tag_is, (decided, (c.push-deeper.ensures.bits, (k.gs, k.sub, on.0, k.zs, w.4, w.5, k.sinks, on.2, on.3 w.8))))))))

pub returns-clause-slots : goal.returns-clause-slots
returns-clause-slots g t c = c.descend_to.ensures.slots ∙ (keeps_here c.requires.way.6 c.in-Some.is refl (set g t (goal.at.returns-clause-slots g t c).After-set_size)).slots

pub returns-clause-way : goal.returns-clause-way
returns-clause-way g t c fs u xs ys vs ws h r =
    let o = goal.at.returns-clause-way g t c in
    let on = next g t o.After-push-deeper (side_found g t o.After-compare_nodes-side) h r in let k = on.1 in
    let far = c.descend_to.ensures.way k.gs k.sub on.0 k.zs vs ws k.sinks on.2 in
    (far.0, far.1, far.2, k.sunk c.descend_to.new.p (path_steps c.descend_to.new.nodes c.descend_to.result) far.0 far.1 far.2 far.3)
