-- Each step down goes to the side where the node stands, past one that it doesn't pass as it moves.
use Rattle.std.proofs.Common.{◌≡◌, ◌∙◌, ◌<◌, ◌≤◌, ◌+◌, Bool, true, false, not, cond, Option, arith, refl, sym, ap, subst}
use Rattle.mi_node.specs.Refs.{Ref}
use Rattle.mi_node.specs.declared.link.Link.{Link}
use Rattle.mi_value.specs.declared.steps.Steps.{Steps}
use Rattle.mi_tree.specs.BinaryTree.{IsRooted, height_at}
use Rattle.mi_tree.specs.Keeping.{facing, is_facing, side_of_item}
use Rattle.mi_tree.proofs.KeepingLemmas.{item_read, facing_is, is_facing_of, not_true, Above, above_start, above_held, above_tag, above_lower, above_next, above_lost}
use Rattle.mi_tree.proofs.KeepingLemmas.{above_here, above_steps, above_few, above_end}
use Rattle.mi_tree.proofs.SortedLemmas.{side_read, tagged_read}
use Rattle.std.specs.Ordering.{is_eq}
use Rattle.mi_tree.specs.Sorted.{side}
use Rattle.mi_tree.proofs.RemovalPathLemmas.{equal_is}
use Rattle.mi_tree.proofs.keeping.passes_none_above.Given.{Over}
use Rattle.mi_tree.proofs.keeping.passes_none_above.Goals.{After-compare_nodes-side, else-is_facing-via-then-is_facing+else-not-is_facing, else-is_facing-via-else-is_facing}
use Rattle.mi_tree.proofs.keeping.passes_none_above.Goals as goal

-- the neighbour on that side is the one that the link names
next_is : (b : Bool) {o : Option Ref} {y z : Link} → o ≡ cond (not b) z.back z.forth → y ≡ z → o ≡ cond b y.forth y.back
next_is true e i = e ∙ ap (λ (k : Link). k.forth) (sym i)
next_is false e i = e ∙ ap (λ (k : Link). k.back) (sym i)

module _ (g : Over) (c : After-compare_nodes-side g) where
  -- the side that was found is the one where the node that is sought stands
  side_found : side (g.O.NodeOrder.order c.args.order.now) c.args.p.now c.args.slot c.args.node c.in-Some.here ≡ c.compare_nodes-side.result
  side_found = side_read (g.O.NodeOrder.order c.args.order.now) c.args.slot c.args.node c.in-Some.here c.new.ensures.pool c.requires.tag
      (ap (λ (z : Link). z.tag) c.link-link.ensures) c.compare_nodes-side.ensures.result

pub loop-at-init : goal.loop-at-init
loop-at-init g c =
    let w = c.requires.tree in
    above_start (g.O.NodeOrder.order c.args.order.now) (g.met.O.NodeOrder.total c.args.order.now) c.args.p.now c.args.slot c.args.item.now.value.now c.args.item.now.tag.stamp
    (g.O.NodeOrder.tag_of c.args.order.now) c.args.rises c.args.node c.args.root w.0 w.1 w.2 w.3 w.4 w.5 w.6 c.args.steps.now.count

pub link-link-requires-clause-held : goal.link-link-requires-clause-held
link-link-requires-clause-held g c =
    above_held (g.O.NodeOrder.order c.args.order.now) (g.met.O.NodeOrder.total c.args.order.now) c.args.p.now c.args.slot c.args.item.now.value.now c.args.item.now.tag.stamp
    c.loop-at.invariant c.in-Some.is refl

pub neighbour-at-requires-clause-held : goal.neighbour-at-requires-clause-held
neighbour-at-requires-clause-held g c =
    above_held (g.O.NodeOrder.order c.args.order.now) (g.met.O.NodeOrder.total c.args.order.now) c.args.p.now c.args.slot c.args.item.now.value.now c.args.item.now.tag.stamp
    c.loop-at.invariant c.in-Some.is refl

pub compare_nodes-side-requires-clause-right : goal.compare_nodes-side-requires-clause-right
compare_nodes-side-requires-clause-right g c =
    let h = c.loop-at.invariant in let i = c.link-link.ensures in
    tagged_read (g.O.NodeOrder.tag_of c.args.order.now) c.args.slot c.in-Some.here c.new.ensures.pool (ap (λ (z : Link). z.tag) i)
    (above_held (g.O.NodeOrder.order c.args.order.now) (g.met.O.NodeOrder.total c.args.order.now) c.args.p.now c.args.slot c.args.item.now.value.now c.args.item.now.tag.stamp
    h c.in-Some.is i)
    (above_tag (g.O.NodeOrder.order c.args.order.now) (g.met.O.NodeOrder.total c.args.order.now) c.args.p.now c.args.slot c.args.item.now.value.now c.args.item.now.tag.stamp
    h c.in-Some.is i)

pub passes_none-requires-clause-tree : goal.passes_none-requires-clause-tree
passes_none-requires-clause-tree g c =
    let o = (goal.at.passes_none-requires-clause-tree g c).After-compare_nodes-side in
    let r = above_here (g.O.NodeOrder.order c.args.order.now) (g.met.O.NodeOrder.total c.args.order.now) c.args.p.now c.args.slot c.args.item.now.value.now c.args.item.now.tag.stamp
    c.loop-at.invariant c.in-Some.is c.link-link.ensures (side_found g o ∙ equal_is c.compare_nodes-side.result (sym c.is_eq.ensures ∙ c.if-is_eq.true)) in
    (r.z, subst (λ k. IsRooted c.args.p.now c.args.slot k r.z) (sym c.side_ahead-next.ensures) r.rooted, r.rising, r.tagged)

pub returns-then-is_eq-clause-passes : goal.returns-then-is_eq-clause-passes
returns-then-is_eq-clause-passes g c t xs ys w q =
    let o = (goal.at.returns-then-is_eq-clause-passes g c).After-compare_nodes-side in
    let r = above_here (g.O.NodeOrder.order c.args.order.now) (g.met.O.NodeOrder.total c.args.order.now) c.args.p.now c.args.slot c.args.item.now.value.now c.args.item.now.tag.stamp
    c.loop-at.invariant c.in-Some.is c.link-link.ensures (side_found g o ∙ equal_is c.compare_nodes-side.result (sym c.is_eq.ensures ∙ c.if-is_eq.true)) in
    let is = c.passes_none.ensures.passes r.z (subst (λ k. IsRooted c.args.p.now c.args.slot k r.z) (sym c.side_ahead-next.ensures) r.rooted) in
    (λ h. r.back t xs ys w q (is.0 h), λ a. is.1 (r.forth t xs ys w q a))

pub returns-then-is_eq-clause-steps : goal.returns-then-is_eq-clause-steps
returns-then-is_eq-clause-steps g c t w =
    let o = (goal.at.returns-then-is_eq-clause-steps g c).After-compare_nodes-side in
    let r = above_here (g.O.NodeOrder.order c.args.order.now) (g.met.O.NodeOrder.total c.args.order.now) c.args.p.now c.args.slot c.args.item.now.value.now c.args.item.now.tag.stamp
    c.loop-at.invariant c.in-Some.is c.link-link.ensures (side_found g o ∙ equal_is c.compare_nodes-side.result (sym c.is_eq.ensures ∙ c.if-is_eq.true)) in
    above_steps (g.O.NodeOrder.order c.args.order.now) (g.met.O.NodeOrder.total c.args.order.now) c.args.p.now c.args.slot c.args.item.now.value.now c.args.item.now.tag.stamp
    c.loop-at.invariant c.in-Some.is c.link-link.ensures r.z r.lower _ _ c.compare_nodes-side.ensures.steps
    (c.passes_none.ensures.steps r.z (subst (λ k. IsRooted c.args.p.now c.args.slot k r.z) (sym c.side_ahead-next.ensures) r.rooted)) t w

pub compare_item-requires-clause-node : goal.compare_item-requires-clause-node
compare_item-requires-clause-node g c =
    let h = c.loop-at.invariant in let i = c.link-link.ensures in
    tagged_read (g.O.NodeOrder.tag_of c.args.order.now) c.args.slot c.in-Some.here refl (ap (λ (z : Link). z.tag) i)
    (above_held (g.O.NodeOrder.order c.args.order.now) (g.met.O.NodeOrder.total c.args.order.now) c.args.p.now c.args.slot c.args.item.now.value.now c.args.item.now.tag.stamp
    h c.in-Some.is i)
    (above_tag (g.O.NodeOrder.order c.args.order.now) (g.met.O.NodeOrder.total c.args.order.now) c.args.p.now c.args.slot c.args.item.now.value.now c.args.item.now.tag.stamp
    h c.in-Some.is i)

pub returns-then-not-is_facing-clause-passes : goal.returns-then-not-is_facing-clause-passes
returns-then-not-is_facing-clause-passes g c t xs ys w q =
    let o = (goal.at.returns-then-not-is_facing-clause-passes g c).After-compare_nodes-side in
    let at = item_read (g.O.NodeOrder.order c.args.order.now) (g.met.O.NodeOrder.total c.args.order.now) c.args.p.now c.args.slot c.args.item.now.value.now c.args.item.now.tag.stamp
    c.in-Some.here c.link-link.ensures c.compare_item.ensures.result in (
      λ h. absurd (not_true h refl),
      λ a. absurd (above_lost (g.O.NodeOrder.order c.args.order.now) (g.met.O.NodeOrder.total c.args.order.now) c.args.p.now c.args.slot c.args.item.now.value.now c.args.item.now.tag.stamp
          c.loop-at.invariant c.in-Some.is c.link-link.ensures c.compare_nodes-side.result (side_found g o) (sym c.is_facing.ensures ∙ c.if-is_facing.true)
          (ap (is_facing c.args.rises) at ∙ sym c.is_facing-then-is_facing.ensures ∙ c.if-not-is_facing.true) t xs ys w q a),
    )

pub returns-then-not-is_facing-clause-steps : goal.returns-then-not-is_facing-clause-steps
returns-then-not-is_facing-clause-steps g c t w =
    let j = c.compare_nodes-side.ensures.steps in let k = c.compare_item.ensures.steps in
    above_few (g.O.NodeOrder.order c.args.order.now) (g.met.O.NodeOrder.total c.args.order.now) c.args.p.now c.args.slot c.args.item.now.value.now c.args.item.now.tag.stamp
    c.loop-at.invariant c.in-Some.is c.link-link.ensures c.compare_item.new.steps.count (omega arith) t w

pub loop-at-smaller : goal.loop-at-smaller
loop-at-smaller g c =
    subst (λ z. height_at c.args.p.now c.args.slot z < height_at c.args.p.now c.args.slot c.loop-at.at) (sym (next_is c.is_gt.result c.neighbour-at.ensures c.link-link.ensures))
    (above_lower (g.O.NodeOrder.order c.args.order.now) (g.met.O.NodeOrder.total c.args.order.now) c.args.p.now c.args.slot c.args.item.now.value.now c.args.item.now.tag.stamp
    c.loop-at.invariant c.in-Some.is c.link-link.ensures c.is_gt.result)

pub loop-at-preserved : goal.loop-at-preserved
loop-at-preserved g c =
    let o = (goal.at.loop-at-preserved g c).After-compare_nodes-side in let found = side_found g o in let j = c.compare_nodes-side.ensures.steps in
    let clear : (side (g.O.NodeOrder.order c.args.order.now) c.args.p.now c.args.slot c.args.node c.in-Some.here ≡ facing c.args.rises
    → side_of_item (g.O.NodeOrder.order c.args.order.now) c.args.p.now c.args.slot c.args.item.now.value.now c.args.item.now.tag.stamp c.in-Some.here ≡ facing c.args.rises)
    × (c.else-is_facing.steps.count ≤ c.loop-at.steps.count + 2) =
    elim c.else-is_facing.branch [
      | else-is_facing-via-then-is_facing+else-not-is_facing w ↦
          let k = w.compare_item.ensures.steps in let e = ap (λ (z : Steps). z.count) w.steps-is in (
            λ same. item_read (g.O.NodeOrder.order c.args.order.now) (g.met.O.NodeOrder.total c.args.order.now) c.args.p.now c.args.slot c.args.item.now.value.now c.args.item.now.tag.stamp
                c.in-Some.here c.link-link.ensures w.compare_item.ensures.result
                ∙ facing_is c.args.rises w.compare_item.result (sym w.is_facing-then-is_facing.ensures ∙ w.if-not-is_facing.false),
            omega arith,
          )
      | else-is_facing-via-else-is_facing w ↦ let e = ap (λ (z : Steps). z.count) w.steps-is in (
        λ same. absurd (not_true (sym (ap (is_facing c.args.rises) found) ∙ is_facing_of c.args.rises _ same) (sym c.is_facing.ensures ∙ w.if-is_facing.false)),
        omega arith,
      )
    ] in
    subst (λ z. Above (g.O.NodeOrder.order c.args.order.now) c.args.p.now c.args.slot c.args.item.now.value.now c.args.item.now.tag.stamp
    (g.O.NodeOrder.tag_of c.args.order.now) c.args.rises c.args.node c.args.root z c.args.steps.now.count c.else-is_facing.steps.count) (sym (next_is c.is_gt.result c.neighbour-at.ensures c.link-link.ensures))
    (above_next (g.O.NodeOrder.order c.args.order.now) (g.met.O.NodeOrder.total c.args.order.now) c.args.p.now c.args.slot c.args.item.now.value.now c.args.item.now.tag.stamp
    c.loop-at.invariant c.in-Some.is c.link-link.ensures _ clear.1 clear.0 c.compare_nodes-side.result found
    (λ e. not_true (ap is_eq e) (sym c.is_eq.ensures ∙ c.if-is_eq.false)) c.is_gt.result c.is_gt.ensures)

pub returns-clause-passes : goal.returns-clause-passes
returns-clause-passes g c t xs ys w q = absurd (above_end (g.O.NodeOrder.order c.args.order.now) (g.met.O.NodeOrder.total c.args.order.now) c.args.p.now c.args.slot c.args.item.now.value.now c.args.item.now.tag.stamp
    c.loop-at.invariant c.in_default.is)

pub returns-clause-steps : goal.returns-clause-steps
returns-clause-steps g c t w = absurd (above_end (g.O.NodeOrder.order c.args.order.now) (g.met.O.NodeOrder.total c.args.order.now) c.args.p.now c.args.slot c.args.item.now.value.now c.args.item.now.tag.stamp
    c.loop-at.invariant c.in_default.is)
