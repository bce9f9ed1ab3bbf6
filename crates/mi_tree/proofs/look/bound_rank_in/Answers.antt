-- What was passed over on the left, with the place of the first in the subtree that is left, is its place in the whole.
use Rattle.std.proofs.Common.{◌≡◌, ◌<◌, sym, ap, ◌∙◌, subst}
use Rattle.mi_node.specs.Pool.{Pooled, IsHeldIf}
use Rattle.mi_node.specs.declared.link.Link.{Link}
use Rattle.mi_tree.specs.BinaryTree.{link_at}
use Rattle.mi_tree.specs.Probed.{is_past_node}
use Rattle.mi_tree.proofs.BinaryTreeLemmas.{lower-moved, held-root}
use Rattle.mi_tree.proofs.SortedLemmas.{tagged_read}
use Rattle.mi_tree.proofs.LookUpLemmas.{past_read}
use Rattle.mi_tree.proofs.ProbeRankLemmas.{pass_start, pass_link, pass_held, pass_tag, pass_sides, pass_lower}
use Rattle.mi_tree.proofs.ProbeRankLemmas.{pass_left, pass_not_less, pass_fits, pass_right, pass_end}
use Rattle.mi_tree.proofs.look.bound_rank_in.Given.{Over}
use Rattle.mi_tree.proofs.look.bound_rank_in.Goals.{After-is_past, After-link_ahead-ahead}
use Rattle.mi_tree.proofs.look.bound_rank_in.Goals as goal

module _ (g : Over) (c : After-is_past g) where
  -- the answer is that of the node
  answer_is : is_past_node c.args.sought.now.is_upper (λ (x : g.row.T.Denot). g.O.NodeOrder.place c.args.order.now x c.args.sought.now.probe) c.args.p.now.pool c.in-Some.node
      ≡ c.is_past.result
  answer_is = past_read c.args.sought.now.is_upper (λ (x : g.row.T.Denot). g.O.NodeOrder.place c.args.order.now x c.args.sought.now.probe) c.in-Some.node
      c.loop-at.invariant.0 (pass_held c.loop-at.invariant.1 c.in-Some.is) c.compare_sought-side.ensures.result c.is_past.ensures

module _ (g : Over) (c : After-link_ahead-ahead g) where
  -- the link that was read is that of the right side, in the pool as it was at the start
  ahead_is : c.link_ahead-ahead.result ≡ link_at c.args.p.now.pool c.args.slot c.loop-at.link.forth
  ahead_is = c.link_ahead-ahead.ensures.link ∙ ap (λ (z : Pooled g.row.T.Denot). link_at z c.args.slot c.loop-at.link.forth) c.loop-at.invariant.0

pub link_ahead-link-requires-clause-held : goal.link_ahead-link-requires-clause-held
link_ahead-link-requires-clause-held g c = let w = c.requires.tree in held-root c.args.p.now.pool c.args.slot c.args.root w.0 w.1

pub loop-at-init : goal.loop-at-init
loop-at-init g c =
    let w = c.requires.tree in let f = c.link_ahead-link.ensures in (f.pool, pass_start w.0 w.1 w.2 w.3 w.4 c.args.steps.now.count f.link f.reads)

pub compare_sought-side-requires-clause-node : goal.compare_sought-side-requires-clause-node
compare_sought-side-requires-clause-node g c =
    let h = c.loop-at.invariant.1 in
    tagged_read (g.O.NodeOrder.tag_of c.args.order.now) c.args.slot c.in-Some.node c.loop-at.invariant.0
    (ap (λ (k : Link). k.tag) (pass_link h c.in-Some.is)) (pass_held h c.in-Some.is) (pass_tag h c.in-Some.is)

pub link_ahead-link-requires-then-is_past-clause-slot : goal.link_ahead-link-requires-then-is_past-clause-slot
link_ahead-link-requires-then-is_past-clause-slot g c =
    subst (λ (z : Pooled g.row.T.Denot). c.args.slot < z.slots) (sym c.loop-at.invariant.0) c.requires.slot

pub link_ahead-link-requires-then-is_past-clause-held : goal.link_ahead-link-requires-then-is_past-clause-held
link_ahead-link-requires-then-is_past-clause-held g c =
    subst (λ (z : Pooled g.row.T.Denot). IsHeldIf z c.loop-at.link.back) (sym c.loop-at.invariant.0) (pass_sides c.loop-at.invariant.1 c.in-Some.is).0

pub loop-at-smaller-then-is_past : goal.loop-at-smaller-then-is_past
loop-at-smaller-then-is_past g c =
    lower-moved _ _ _ _ _ (c.link_ahead-link-then-is_past.ensures.pool ∙ c.loop-at.invariant.0) c.loop-at.invariant.0
    (pass_lower c.loop-at.invariant.1 c.in-Some.is).0

pub loop-at-preserved-then-is_past : goal.loop-at-preserved-then-is_past
loop-at-preserved-then-is_past g c =
    let o = goal.at.loop-at-preserved-then-is_past g c in let z = c.link_ahead-link-then-is_past.ensures in
    let link_is = z.link ∙ ap (λ (k : Pooled g.row.T.Denot). link_at k c.args.slot c.loop-at.link.back) c.loop-at.invariant.0 in (
      z.pool ∙ c.loop-at.invariant.0,
      pass_left c.loop-at.invariant.1 c.in-Some.is link_is z.reads c.compare_sought-side.ensures.steps (answer_is g o.After-is_past ∙ c.if-is_past.true),
    )

pub link_ahead-ahead-requires-clause-slot : goal.link_ahead-ahead-requires-clause-slot
link_ahead-ahead-requires-clause-slot g c =
    subst (λ (z : Pooled g.row.T.Denot). c.args.slot < z.slots) (sym c.loop-at.invariant.0) c.requires.slot

pub link_ahead-ahead-requires-clause-held : goal.link_ahead-ahead-requires-clause-held
link_ahead-ahead-requires-clause-held g c =
    subst (λ (z : Pooled g.row.T.Denot). IsHeldIf z c.loop-at.link.forth) (sym c.loop-at.invariant.0) (pass_sides c.loop-at.invariant.1 c.in-Some.is).1

pub overflow_sub-before : goal.overflow_sub-before
overflow_sub-before g c =
    pass_not_less c.loop-at.invariant.1 c.in-Some.is (ahead_is g (goal.at.overflow_sub-before g c).After-link_ahead-ahead)

pub overflow_add-before : goal.overflow_add-before
overflow_add-before g c =
    record { fits = pass_fits c.loop-at.invariant.1 c.in-Some.is (ahead_is g (goal.at.overflow_add-before g c).After-link_ahead-ahead) }

pub loop-at-smaller : goal.loop-at-smaller
loop-at-smaller g c =
    lower-moved _ _ _ _ _ (c.link_ahead-ahead.ensures.pool ∙ c.loop-at.invariant.0) c.loop-at.invariant.0
    (pass_lower c.loop-at.invariant.1 c.in-Some.is).1

pub loop-at-preserved : goal.loop-at-preserved
loop-at-preserved g c =
    let o = goal.at.loop-at-preserved g c in let z = c.link_ahead-ahead.ensures in (
      z.pool ∙ c.loop-at.invariant.0,
      pass_right c.loop-at.invariant.1 c.in-Some.is (ahead_is g o.After-link_ahead-ahead) z.reads c.compare_sought-side.ensures.steps
          (answer_is g o.After-is_past ∙ c.if-is_past.false),
    )

pub returns-clause-rank : goal.returns-clause-rank
returns-clause-rank g c t h = (pass_end c.loop-at.invariant.1 c.in_default.is t h).0

pub returns-clause-reads : goal.returns-clause-reads
returns-clause-reads g c t h = (pass_end c.loop-at.invariant.1 c.in_default.is t h).1

pub returns-clause-steps : goal.returns-clause-steps
returns-clause-steps g c t h = (pass_end c.loop-at.invariant.1 c.in_default.is t h).2
