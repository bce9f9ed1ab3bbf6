-- The first node that meets the probe stands in the subtree that is left, or is the last one that was gone left at.
use Rattle.std.proofs.Common.{◌≡◌, ◌<◌, sym, refl, ap, ◌∙◌, subst}
use Rattle.mi_node.specs.Pool.{Pooled, link_of, IsHeld}
use Rattle.mi_node.specs.declared.link.Link.{Link}
use Rattle.mi_tree.specs.Probed.{is_past_node, first_where}
use Rattle.mi_tree.proofs.BinaryTreeLemmas.{lower-moved}
use Rattle.mi_tree.proofs.SortedLemmas.{tagged_read}
use Rattle.mi_tree.proofs.LookUpLemmas.{past_read, seek_start, seek_held, seek_tag, seek_lower, seek_left, seek_right, seek_end}
use Rattle.mi_tree.proofs.StandingLemmas.{within, seeks_root}
use Rattle.mi_tree.proofs.tree.Tree.bound.Given.{Over}
use Rattle.mi_tree.proofs.tree.Tree.bound.Goals.{After-link-link, After-is_past}
use Rattle.mi_tree.proofs.tree.Tree.bound.Goals as goal

module _ (g : Over) (c : After-link-link g) where
  -- the pool that was read is as it was at the start
  pool_is : c.link-link.new.self.pool ≡ c.args.p.now.pool
  pool_is = c.link-link.ensures.pool ∙ c.loop-at.invariant.0

  -- the link that was read is the node's
  link_is : c.link-link.result ≡ link_of c.args.p.now.pool c.in-Some.node.name c.args.self.now.slot
  link_is = c.link-link.ensures.link ∙ ap (λ (z : Pooled g.row.T.Denot). link_of z c.in-Some.node.name c.args.self.now.slot) c.loop-at.invariant.0

module _ (g : Over) (c : After-is_past g) where
  -- the answer is that of the node
  answer_is : is_past_node c.args.is_upper (λ (x : g.row.T.Denot). g.O.NodeOrder.place c.args.self.now.order x c.args.probe) c.args.p.now.pool c.in-Some.node
      ≡ c.is_past.result
  answer_is = past_read c.args.is_upper (λ (x : g.row.T.Denot). g.O.NodeOrder.place c.args.self.now.order x c.args.probe) c.in-Some.node
      (c.link-link.ensures.pool ∙ c.loop-at.invariant.0) (seek_held c.loop-at.invariant.1 c.in-Some.is refl) c.compare_probe-side.ensures.result
      c.is_past.ensures

pub loop-at-init : goal.loop-at-init
loop-at-init g c =
    let v = c.args in let o = v.self.now.order in
    let w = seeks_root v.is_upper (λ (x : g.row.T.Denot). g.O.NodeOrder.place o x v.probe) (g.met.O.NodeOrder.monotone o v.probe) c.requires.1 in
    (refl, seek_start w.0 w.1 w.2 w.3 v.p.now.reads v.steps.now.count)

pub link-link-requires-clause-held : goal.link-link-requires-clause-held
link-link-requires-clause-held g c =
    subst (λ (z : Pooled g.row.T.Denot). IsHeld z c.in-Some.node) (sym c.loop-at.invariant.0) (seek_held c.loop-at.invariant.1 c.in-Some.is refl)

pub link-link-requires-clause-slot : goal.link-link-requires-clause-slot
link-link-requires-clause-slot g c = subst (λ (z : Pooled g.row.T.Denot). c.args.self.now.slot < z.slots) (sym c.loop-at.invariant.0) c.requires.1.has_slot

pub compare_probe-side-requires-clause-node : goal.compare_probe-side-requires-clause-node
compare_probe-side-requires-clause-node g c =
    let o = (goal.at.compare_probe-side-requires-clause-node g c).After-link-link in let h = c.loop-at.invariant.1 in
    tagged_read (g.O.NodeOrder.tag_of c.args.self.now.order) c.args.self.now.slot c.in-Some.node (pool_is g o) (ap (λ (k : Link). k.tag) (link_is g o))
    (seek_held h c.in-Some.is (link_is g o)) (seek_tag h c.in-Some.is (link_is g o))

pub loop-at-preserved-then-is_past : goal.loop-at-preserved-then-is_past
loop-at-preserved-then-is_past g c =
    let o = goal.at.loop-at-preserved-then-is_past g c in (
      pool_is g o.After-link-link,
      seek_left c.loop-at.invariant.1 c.in-Some.is (link_is g o.After-link-link) c.link-link.ensures.reads
          c.compare_probe-side.ensures.steps (answer_is g o.After-is_past ∙ c.if-is_past.true),
    )

pub loop-at-smaller-then-is_past : goal.loop-at-smaller-then-is_past
loop-at-smaller-then-is_past g c =
    let o = (goal.at.loop-at-smaller-then-is_past g c).After-link-link in
    lower-moved _ _ _ _ _ (pool_is g o) c.loop-at.invariant.0 (seek_lower c.loop-at.invariant.1 c.in-Some.is (link_is g o)).0

pub loop-at-smaller : goal.loop-at-smaller
loop-at-smaller g c =
    let o = (goal.at.loop-at-smaller g c).After-link-link in
    lower-moved _ _ _ _ _ (pool_is g o) c.loop-at.invariant.0 (seek_lower c.loop-at.invariant.1 c.in-Some.is (link_is g o)).1

pub loop-at-preserved : goal.loop-at-preserved
loop-at-preserved g c =
    let o = goal.at.loop-at-preserved g c in (
      pool_is g o.After-link-link,
      seek_right c.loop-at.invariant.1 c.in-Some.is (link_is g o.After-link-link) c.link-link.ensures.reads
          c.compare_probe-side.ensures.steps (answer_is g o.After-is_past ∙ c.if-is_past.false),
    )

pub returns-clause-reads : goal.returns-clause-reads
returns-clause-reads g c order tag rs h b f = within h b f _ _ (seek_end c.loop-at.invariant.1 c.in_default.is h.shape h.rooted).1

pub returns-clause-steps : goal.returns-clause-steps
returns-clause-steps g c order tag rs h b f = within h b f _ _ (seek_end c.loop-at.invariant.1 c.in_default.is h.shape h.rooted).2

pub returns-clause-node : goal.returns-clause-node
returns-clause-node g c rs h = (seek_end c.loop-at.invariant.1 c.in_default.is h.shape h.rooted).0 ∙ ap (first_where _) h.nodes_are
