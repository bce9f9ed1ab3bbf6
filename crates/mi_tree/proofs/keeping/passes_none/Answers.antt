-- Past a node that the item hasn't passed, those on its other side aren't passed either.
use Rattle.std.proofs.Common.{◌∙◌, ◌<◌, refl, sym, ap, subst}
use Rattle.mi_node.specs.declared.link.Link.{Link}
use Rattle.mi_tree.specs.BinaryTree.{height_at}
use Rattle.mi_tree.specs.Keeping.{is_facing}
use Rattle.mi_tree.proofs.KeepingLemmas.{item_read, facing_is, not_true, Nearing, near_start, near_held, near_tag, near_lower, near_next, near_lost, near_steps, near_end}
use Rattle.mi_tree.proofs.SortedLemmas.{tagged_read}
use Rattle.mi_tree.proofs.keeping.passes_none.Goals as goal

pub loop-at-init : goal.loop-at-init
loop-at-init g c =
    let w = c.requires.tree in
    near_start (g.O.NodeOrder.order c.args.order.now) (g.met.O.NodeOrder.total c.args.order.now) c.args.p.now c.args.slot c.args.item.now.value.now c.args.item.now.tag.stamp
    (g.O.NodeOrder.tag_of c.args.order.now) c.args.rises c.args.root w.0 w.1 w.2 w.3 c.args.steps.now.count

pub link-link-requires-clause-held : goal.link-link-requires-clause-held
link-link-requires-clause-held g c =
    near_held (g.O.NodeOrder.order c.args.order.now) (g.met.O.NodeOrder.total c.args.order.now) c.args.p.now c.args.slot c.args.item.now.value.now c.args.item.now.tag.stamp
    c.loop-at.invariant c.in-Some.is refl

pub compare_item-side-requires-clause-node : goal.compare_item-side-requires-clause-node
compare_item-side-requires-clause-node g c =
    let h = c.loop-at.invariant in let i = c.link-link.ensures in
    tagged_read (g.O.NodeOrder.tag_of c.args.order.now) c.args.slot c.in-Some.here refl (ap (λ (z : Link). z.tag) i)
    (near_held (g.O.NodeOrder.order c.args.order.now) (g.met.O.NodeOrder.total c.args.order.now) c.args.p.now c.args.slot c.args.item.now.value.now c.args.item.now.tag.stamp
    h c.in-Some.is i)
    (near_tag (g.O.NodeOrder.order c.args.order.now) (g.met.O.NodeOrder.total c.args.order.now) c.args.p.now c.args.slot c.args.item.now.value.now c.args.item.now.tag.stamp
    h c.in-Some.is i)

pub returns-then-not-is_facing-clause-passes : goal.returns-then-not-is_facing-clause-passes
returns-then-not-is_facing-clause-passes g c t w =
    let i = c.link-link.ensures in
    let side = item_read (g.O.NodeOrder.order c.args.order.now) (g.met.O.NodeOrder.total c.args.order.now) c.args.p.now c.args.slot c.args.item.now.value.now c.args.item.now.tag.stamp
    c.in-Some.here i c.compare_item-side.ensures.result in (
      λ h. absurd (not_true h refl),
      λ a. absurd (near_lost (g.O.NodeOrder.order c.args.order.now) (g.met.O.NodeOrder.total c.args.order.now) c.args.p.now c.args.slot c.args.item.now.value.now c.args.item.now.tag.stamp
          c.loop-at.invariant c.in-Some.is i
          (ap (is_facing c.args.rises) side ∙ sym c.is_facing.ensures ∙ c.if-not-is_facing.true) t w a),
    )

pub returns-then-not-is_facing-clause-steps : goal.returns-then-not-is_facing-clause-steps
returns-then-not-is_facing-clause-steps g c t w =
    near_steps (g.O.NodeOrder.order c.args.order.now) (g.met.O.NodeOrder.total c.args.order.now) c.args.p.now c.args.slot c.args.item.now.value.now c.args.item.now.tag.stamp
    c.loop-at.invariant c.in-Some.is c.link-link.ensures _ c.compare_item-side.ensures.steps t w

pub loop-at-smaller : goal.loop-at-smaller
loop-at-smaller g c =
    subst (λ z. height_at c.args.p.now c.args.slot z < height_at c.args.p.now c.args.slot c.loop-at.at) (sym c.side_ahead-at.ensures)
    (near_lower (g.O.NodeOrder.order c.args.order.now) (g.met.O.NodeOrder.total c.args.order.now) c.args.p.now c.args.slot c.args.item.now.value.now c.args.item.now.tag.stamp
    c.loop-at.invariant c.in-Some.is c.link-link.ensures)

pub loop-at-preserved : goal.loop-at-preserved
loop-at-preserved g c =
    let i = c.link-link.ensures in
    let side = item_read (g.O.NodeOrder.order c.args.order.now) (g.met.O.NodeOrder.total c.args.order.now) c.args.p.now c.args.slot c.args.item.now.value.now c.args.item.now.tag.stamp
    c.in-Some.here i c.compare_item-side.ensures.result in
    subst (λ z. Nearing (g.O.NodeOrder.order c.args.order.now) c.args.p.now c.args.slot c.args.item.now.value.now c.args.item.now.tag.stamp
    (g.O.NodeOrder.tag_of c.args.order.now) c.args.rises c.args.root z c.args.steps.now.count c.compare_item-side.new.steps.count) (sym c.side_ahead-at.ensures)
    (near_next (g.O.NodeOrder.order c.args.order.now) (g.met.O.NodeOrder.total c.args.order.now) c.args.p.now c.args.slot c.args.item.now.value.now c.args.item.now.tag.stamp
    c.loop-at.invariant c.in-Some.is i (side ∙ facing_is c.args.rises c.compare_item-side.result (sym c.is_facing.ensures ∙ c.if-not-is_facing.false))
    _ c.compare_item-side.ensures.steps)

pub returns-clause-passes : goal.returns-clause-passes
returns-clause-passes g c t w =
    let e = near_end (g.O.NodeOrder.order c.args.order.now) (g.met.O.NodeOrder.total c.args.order.now) c.args.p.now c.args.slot c.args.item.now.value.now c.args.item.now.tag.stamp
    c.loop-at.invariant c.in_default.is t w in
    (λ h. e.0, λ a. refl)

pub returns-clause-steps : goal.returns-clause-steps
returns-clause-steps g c t w =
    (near_end (g.O.NodeOrder.order c.args.order.now) (g.met.O.NodeOrder.total c.args.order.now) c.args.p.now c.args.slot c.args.item.now.value.now c.args.item.now.tag.stamp
    c.loop-at.invariant c.in_default.is t w).1
