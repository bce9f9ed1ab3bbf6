-- The node of the rank stands in the subtree that is left, at the rank less what was passed over.
use Rattle.std.proofs.Common.{◌≡◌, ◌+◌, ◌-◌, suc, sym, ap, ◌∙◌, subst, arith}
use Rattle.mi_node.specs.Pool.{Pooled, IsHeldIf}
use Rattle.mi_tree.specs.BinaryTree.{link_at}
use Rattle.mi_tree.proofs.BinaryTreeLemmas.{lower-moved}
use Rattle.mi_tree.proofs.LookUpLemmas.{carry_start, carry_held, carry_lower, carry_ends, carry_left, carry_right, carry_none}
use Rattle.mi_tree.proofs.look.nth_in.Given.{Over}
use Rattle.mi_tree.proofs.look.nth_in.Goals.{After-link_ahead-before}
use Rattle.mi_tree.proofs.look.nth_in.Goals as goal

module _ (g : Over) (c : After-link_ahead-before g) where
  -- the pool that was read is as it was at the start
  pool_is : c.link_ahead-before.new.p.pool ≡ c.args.p.now.pool
  pool_is = c.link_ahead-before.ensures.pool ∙ c.loop-at.invariant.0

  -- the link that was read is that of the left side
  link_is : c.link_ahead-before.result ≡ link_at c.args.p.now.pool c.args.slot c.loop-at.link.back
  link_is = c.link_ahead-before.ensures.link ∙ ap (λ (z : Pooled g.row.T.Denot). link_at z c.args.slot c.loop-at.link.back) c.loop-at.invariant.0

pub loop-at-init : goal.loop-at-init
loop-at-init g c =
    let w = c.requires.tree in let f = c.link_ahead-link.ensures in (f.pool, carry_start w.0 w.1 f.link f.reads)

pub link_ahead-before-requires-clause-held : goal.link_ahead-before-requires-clause-held
link_ahead-before-requires-clause-held g c =
    subst (λ (z : Pooled g.row.T.Denot). IsHeldIf z c.loop-at.link.back) (sym c.loop-at.invariant.0) (carry_held c.loop-at.invariant.1 c.in-Some.is).0

pub returns-then-left-before-clause-node : goal.returns-then-left-before-clause-node
returns-then-left-before-clause-node g c t k =
    let o = (goal.at.returns-then-left-before-clause-node g c).After-link_ahead-before in
    (carry_ends c.loop-at.invariant.1 c.in-Some.is (link_is g o) c.link_ahead-before.ensures.reads c.if-left-before.true t k).0

pub returns-then-left-before-clause-reads : goal.returns-then-left-before-clause-reads
returns-then-left-before-clause-reads g c t k =
    let o = (goal.at.returns-then-left-before-clause-reads g c).After-link_ahead-before in
    (carry_ends c.loop-at.invariant.1 c.in-Some.is (link_is g o) c.link_ahead-before.ensures.reads c.if-left-before.true t k).1

pub loop-at-smaller-then-left-before-2 : goal.loop-at-smaller-then-left-before-2
loop-at-smaller-then-left-before-2 g c =
    lower-moved _ _ _ _ _ (pool_is g (goal.at.loop-at-smaller-then-left-before-2 g c).After-link_ahead-before) c.loop-at.invariant.0
    (carry_lower c.loop-at.invariant.1 c.in-Some.is).0

pub loop-at-preserved-then-left-before-2 : goal.loop-at-preserved-then-left-before-2
loop-at-preserved-then-left-before-2 g c =
    let o = (goal.at.loop-at-preserved-then-left-before-2 g c).After-link_ahead-before in
    (pool_is g o, carry_left c.loop-at.invariant.1 c.in-Some.is (link_is g o) c.link_ahead-before.ensures.reads c.if-left-before-2.true)

pub link_ahead-link-requires-else-left-before-2-clause-held : goal.link_ahead-link-requires-else-left-before-2-clause-held
link_ahead-link-requires-else-left-before-2-clause-held g c =
    let o = (goal.at.link_ahead-link-requires-else-left-before-2-clause-held g c).After-link_ahead-before in
    subst (λ (z : Pooled g.row.T.Denot). IsHeldIf z c.loop-at.link.forth) (sym (pool_is g o)) (carry_held c.loop-at.invariant.1 c.in-Some.is).1

pub loop-at-smaller : goal.loop-at-smaller
loop-at-smaller g c =
    let o = (goal.at.loop-at-smaller g c).After-link_ahead-before in
    lower-moved _ _ _ _ _ (c.link_ahead-link-else-left-before-2.ensures.pool ∙ pool_is g o) c.loop-at.invariant.0
    (carry_lower c.loop-at.invariant.1 c.in-Some.is).1

pub loop-at-preserved : goal.loop-at-preserved
loop-at-preserved g c =
    let o = (goal.at.loop-at-preserved g c).After-link_ahead-before in let z = c.link_ahead-link-else-left-before-2 in
    let forth_is = z.ensures.link ∙ ap (λ (k : Pooled g.row.T.Denot). link_at k c.args.slot c.loop-at.link.forth) (pool_is g o) in
    let n = c.loop-at.left in let w = c.link_ahead-before.result in let d = n - w.size - 1 in
    let past : n ≡ suc (w.size + d) = omega (arith, c.if-left-before-2.false, c.if-left-before.false) in
    (z.ensures.pool ∙ pool_is g o, carry_right c.loop-at.invariant.1 c.in-Some.is (link_is g o) c.link_ahead-before.ensures.reads past forth_is z.ensures.reads)

pub returns-clause-node : goal.returns-clause-node
returns-clause-node g c t w = (carry_none c.loop-at.invariant.1 c.in_default.is t w).0

pub returns-clause-reads : goal.returns-clause-reads
returns-clause-reads g c t w = (carry_none c.loop-at.invariant.1 c.in_default.is t w).1
