-- What was passed over on the left, with the rank in the subtree that is left, is the rank.
use Rattle.std.proofs.Common.{◌≡◌, ◌+◌, ◌-◌, ◌<◌, ◌≤◌, ◌^◌, refl, sym, ap, ◌∙◌, subst, arith}
use Rattle.mi_node.specs.Pool.{Pooled, link_of, IsHeld}
use Rattle.mi_node.specs.declared.link.Link.{Link}
use Rattle.mi_tree.specs.BinaryTree.{size_at}
use Rattle.mi_tree.specs.Sorted.{side}
use Rattle.mi_tree.proofs.BinaryTreeLemmas.{held-moved, lower-moved}
use Rattle.mi_tree.proofs.SortedLemmas.{side_read, tagged_read}
use Rattle.mi_tree.proofs.RankLemmas.{rank_start, rank_held, rank_back, rank_forth, rank_tag, rank_lower, rank_left}
use Rattle.mi_tree.proofs.RankLemmas.{rank_right, rank_here, rank_fits_here, rank_fits_right, rank_not_less, rank_end}
use Rattle.mi_tree.proofs.look.rank_in.Given.{Over}
use Rattle.mi_tree.proofs.look.rank_in.Goals.{After-link-link, After-compare_nodes, After-size, After-size-in-Greater}
use Rattle.mi_tree.proofs.look.rank_in.Goals as goal

module _ (g : Over) (c : After-link-link g) where
  -- the pool that was read is as it was at the start
  pool_is : c.link-link.new.self.pool ≡ c.args.p.now.pool
  pool_is = c.link-link.ensures.pool ∙ c.loop-at.invariant.0

  -- the link that was read is the node's
  link_is : c.link-link.result ≡ link_of c.args.p.now.pool c.in-Some.here.name c.args.slot
  link_is = c.link-link.ensures.link ∙ ap (λ (z : Pooled g.row.T.Denot). link_of z c.in-Some.here.name c.args.slot) c.loop-at.invariant.0

module _ (g : Over) (c : After-compare_nodes g) where
  -- the side that was found is the one where the node that is sought stands
  side_found : side (g.O.NodeOrder.order c.args.order.now) c.args.p.now.pool c.args.slot c.args.node c.in-Some.here ≡ c.compare_nodes.result
  side_found =
      let same = c.loop-at.invariant.0 in let s = c.args.slot in let r = c.in-Some.here in
      side_read (g.O.NodeOrder.order c.args.order.now) s c.args.node r (c.link-link.ensures.pool ∙ same) c.requires.tag
      (ap (λ (k : Link). k.tag) c.link-link.ensures.link ∙ ap (λ (z : Pooled g.row.T.Denot). (link_of z r.name s).tag) same) c.compare_nodes.ensures.result

module _ (g : Over) (c : After-size g) (same : c.link-link.new.self.pool ≡ c.args.p.now.pool) where
  -- the count of the nodes under the left side
  size_before : c.size.result ≡ size_at c.args.p.now.pool c.args.slot c.link-link.result.back
  size_before = c.size.ensures.size ∙ ap (λ (z : Pooled g.row.T.Denot). size_at z c.args.slot c.link-link.result.back) same

module _ (g : Over) (c : After-size-in-Greater g) (same : c.link-link.new.self.pool ≡ c.args.p.now.pool) where
  -- the count of the nodes under the right side
  size_after : c.size-in-Greater.result ≡ size_at c.args.p.now.pool c.args.slot c.link-link.result.forth
  size_after = c.size-in-Greater.ensures.size ∙ ap (λ (z : Pooled g.row.T.Denot). size_at z c.args.slot c.link-link.result.forth) same

pub loop-at-init : goal.loop-at-init
loop-at-init g c = let v = c.args in let w = c.requires.tree in (refl, rank_start w.0 w.1 w.2 w.3.rooted w.3.fits w.4 w.5 w.6 v.p.now.reads v.steps.now.count)

pub link-link-requires-clause-held : goal.link-link-requires-clause-held
link-link-requires-clause-held g c =
    subst (λ (z : Pooled g.row.T.Denot). IsHeld z c.in-Some.here) (sym c.loop-at.invariant.0) (rank_held c.loop-at.invariant.1 c.in-Some.is refl)

pub compare_nodes-requires-clause-right : goal.compare_nodes-requires-clause-right
compare_nodes-requires-clause-right g c =
    let o = (goal.at.compare_nodes-requires-clause-right g c).After-link-link in let h = c.loop-at.invariant.1 in
    tagged_read (g.O.NodeOrder.tag_of c.args.order.now) c.args.slot c.in-Some.here (pool_is g o) (ap (λ (k : Link). k.tag) (link_is g o))
    (rank_held h c.in-Some.is (link_is g o)) (rank_tag h c.in-Some.is (link_is g o))

pub loop-at-smaller-in-Less : goal.loop-at-smaller-in-Less
loop-at-smaller-in-Less g c =
    let o = (goal.at.loop-at-smaller-in-Less g c).After-link-link in
    lower-moved _ _ _ _ _ (pool_is g o) c.loop-at.invariant.0 (rank_lower c.loop-at.invariant.1 c.in-Some.is (link_is g o)).0

pub loop-at-preserved-in-Less : goal.loop-at-preserved-in-Less
loop-at-preserved-in-Less g c =
    let o = goal.at.loop-at-preserved-in-Less g c in let e = c.link-link.ensures.reads in
    let low : c.link-link.new.self.reads ≤ c.loop-at.p.reads + 2 = omega arith in (
      pool_is g o.After-link-link,
      rank_left c.loop-at.invariant.1 c.in-Some.is (link_is g o.After-link-link) (g.met.O.NodeOrder.total c.args.order.now)
          low c.compare_nodes.ensures.steps (side_found g o.After-compare_nodes ∙ c.in-Less.is),
    )

pub size-requires-clause-held : goal.size-requires-clause-held
size-requires-clause-held g c =
    let o = (goal.at.size-requires-clause-held g c).After-link-link in
    held-moved (pool_is g o) (rank_back c.loop-at.invariant.1 c.in-Some.is (link_is g o))

pub overflow_add-result : goal.overflow_add-result
overflow_add-result g c =
    let o = goal.at.overflow_add-result g c in let size = size_before g o.After-size (pool_is g o.After-link-link) in
    let most = rank_fits_here c.loop-at.invariant.1 c.in-Some.is (link_is g o.After-link-link) (g.met.O.NodeOrder.total c.args.order.now)
    (side_found g o.After-compare_nodes ∙ c.in-Equal.is) in
    let fits : c.loop-at.before + c.size.result < 2 ^ 32 = omega arith in
    record { fits = fits }

pub returns-in-Equal : goal.returns-in-Equal
returns-in-Equal g c =
    let o = goal.at.returns-in-Equal g c in let e = c.link-link.ensures.reads in let j = c.size.ensures.reads in
    let low : c.size.new.p.reads ≤ c.loop-at.p.reads + 2 = omega arith in
    let on = rank_here c.loop-at.invariant.1 c.in-Some.is (link_is g o.After-link-link) (g.met.O.NodeOrder.total c.args.order.now)
    low c.compare_nodes.ensures.steps (side_found g o.After-compare_nodes ∙ c.in-Equal.is) in
    record {
      rank = λ t xs ys h up q. ap (λ k. c.loop-at.before + k) (size_before g o.After-size (pool_is g o.After-link-link)) ∙ (on t h.rooted).0 xs ys q;
      pool = c.size.ensures.pool ∙ pool_is g o.After-link-link;
      reads = λ t w. (on t w).1;
      steps = λ t w. (on t w).2;
    }

pub size-requires-in-Greater-clause-held : goal.size-requires-in-Greater-clause-held
size-requires-in-Greater-clause-held g c =
    let o = (goal.at.size-requires-in-Greater-clause-held g c).After-link-link in
    held-moved (pool_is g o) (rank_forth c.loop-at.invariant.1 c.in-Some.is (link_is g o))

pub overflow_sub-before : goal.overflow_sub-before
overflow_sub-before g c =
    let o = goal.at.overflow_sub-before g c in let size = size_after g o.After-size-in-Greater (pool_is g o.After-link-link) in
    let less = rank_not_less c.loop-at.invariant.1 c.in-Some.is (link_is g o.After-link-link) in
    omega arith

pub overflow_add-before : goal.overflow_add-before
overflow_add-before g c =
    let o = goal.at.overflow_add-before g c in let size = size_after g o.After-size-in-Greater (pool_is g o.After-link-link) in
    let most = rank_fits_right c.loop-at.invariant.1 c.in-Some.is (link_is g o.After-link-link) (g.met.O.NodeOrder.total c.args.order.now)
    (side_found g o.After-compare_nodes ∙ c.in-Greater.is) in
    record { fits = subst (λ k. c.loop-at.before + (c.link-link.result.size - k) < 2 ^ 32) (sym size) most }

pub loop-at-smaller : goal.loop-at-smaller
loop-at-smaller g c =
    let o = (goal.at.loop-at-smaller g c).After-link-link in
    lower-moved _ _ _ _ _ (c.size-in-Greater.ensures.pool ∙ pool_is g o) c.loop-at.invariant.0
    (rank_lower c.loop-at.invariant.1 c.in-Some.is (link_is g o)).1

pub loop-at-preserved : goal.loop-at-preserved
loop-at-preserved g c =
    let o = goal.at.loop-at-preserved g c in let y = c.link-link.result in
    let size = size_after g o.After-size-in-Greater (pool_is g o.After-link-link) in
    let e = c.link-link.ensures.reads in let j = c.size-in-Greater.ensures.reads in
    let low : c.size-in-Greater.new.p.reads ≤ c.loop-at.p.reads + 2 = omega arith in (
      c.size-in-Greater.ensures.pool ∙ pool_is g o.After-link-link,
      rank_right c.loop-at.invariant.1 c.in-Some.is (link_is g o.After-link-link) (g.met.O.NodeOrder.total c.args.order.now) low
          c.compare_nodes.ensures.steps (side_found g o.After-compare_nodes ∙ c.in-Greater.is) _ (ap (λ k. c.loop-at.before + (y.size - k)) size),
    )

pub returns-clause-rank : goal.returns-clause-rank
returns-clause-rank g c t xs ys h up e = absurd (rank_end c.loop-at.invariant.1 c.in_default.is)

pub returns-clause-reads : goal.returns-clause-reads
returns-clause-reads g c t w = absurd (rank_end c.loop-at.invariant.1 c.in_default.is)

pub returns-clause-steps : goal.returns-clause-steps
returns-clause-steps g c t w = absurd (rank_end c.loop-at.invariant.1 c.in_default.is)
