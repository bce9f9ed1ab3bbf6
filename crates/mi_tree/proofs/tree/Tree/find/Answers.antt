-- The first node that isn't before the probe is at it, or none is.
use Rattle.std.proofs.Common.{◌≡◌, ℕ, ◌+◌, ◌*◌, ◌<◌, ◌≤◌, ◌^◌, List, false, Some, length, sym, ap, ◌∙◌, subst, arith}
use Rattle.std.specs.Ordering.{is_eq}
use Rattle.std.specs.declared.cmp.Ordering.{Ordering}
use Rattle.mi_node.specs.Pool.{Pooled, IsHeld, link_of}
use Rattle.mi_node.specs.Refs.{Ref}
use Rattle.mi_node.specs.declared.link.Link.{Link}
use Rattle.mi_tree.specs.Probed.{is_past_node, is_node_at, first_where}
use Rattle.mi_tree.specs.Standing.{IsTree}
use Rattle.mi_tree.proofs.SortedLemmas.{tagged_read}
use Rattle.mi_tree.proofs.LookUpLemmas.{not_here, node_read, found_none, found_some, found_other, found_held, found_tag, some_found}
use Rattle.mi_tree.proofs.StandingLemmas.{same_length, bound_less}
use Rattle.mi_tree.proofs.tree.Tree.find.Given.{Over}
use Rattle.mi_tree.proofs.tree.Tree.find.Goals.{In-Some, After-compare_probe}
use Rattle.mi_tree.proofs.tree.Tree.find.Goals as goal

module _ (g : Over) (c : In-Some g) where
  -- where a value stands beside the probe
  abbrev place : g.row.T.Denot → Ordering
  place = λ x. g.O.NodeOrder.place c.args.self.now.order x c.args.probe

  -- the node is the first that isn't before the probe
  first_is : Some c.in-Some.node ≡ first_where (is_past_node false place c.args.p.now.pool) c.requires.0
  first_is = sym c.in-Some.is ∙ c.lower.ensures.node c.requires.0 c.requires.1

  -- it is held
  held : IsHeld c.args.p.now.pool c.in-Some.node
  held =
      let h = c.requires.1 in found_held c.args.p.now.pool c.args.self.now.slot h.shape (is_past_node false place c.args.p.now.pool) c.in-Some.node
      h.rooted.stands (first_is ∙ ap (first_where (is_past_node false place c.args.p.now.pool)) (sym h.nodes_are))

  -- the tree has a node, so one level fewer bounds the path down
  bound_here : (order : g.row.T.Denot → g.row.T.Denot → Ordering) (tag : g.row.T.Denot → ℕ) (rs : List Ref)
      (h : IsTree c.args.self.now c.args.p.now.pool order tag rs) (b : ℕ) → length rs < 2 ^ b → c.lower.new.p.reads + 1 ≤ c.args.p.now.reads + 4 * b
  bound_here order tag rs h b f =
      let i = c.lower.ensures.reads order tag rs h b f in let some = some_found _ c.requires.0 c.in-Some.node first_is in
      let long = same_length h c.requires.1 in let d = bound_less h b f (omega arith) in
      omega arith

module _ (g : Over) (c : After-compare_probe g) (held : IsHeld c.args.p.now.pool c.in-Some.node) where
  -- whether the node is at the probe
  node_is : is_node_at (λ (x : g.row.T.Denot). g.O.NodeOrder.place c.args.self.now.order x c.args.probe) c.args.p.now.pool c.in-Some.node
      ≡ is_eq c.compare_probe.result
  node_is = node_read (λ (x : g.row.T.Denot). g.O.NodeOrder.place c.args.self.now.order x c.args.probe) c.in-Some.node
      (c.link.ensures.pool ∙ c.lower.ensures.pool) held c.compare_probe.ensures.result

pub returns-in_default-clause-node : goal.returns-in_default-clause-node
returns-in_default-clause-node g c rs h =
    let l = c.args.self.now in
    found_none (g.O.NodeOrder.order l.order) (λ x. g.O.NodeOrder.place l.order x c.args.probe)
    (g.met.O.NodeOrder.monotone l.order c.args.probe) c.args.p.now.pool l.slot rs h.rising (sym c.in_default.is ∙ c.lower.ensures.node rs h)

pub returns-in_default-clause-steps : goal.returns-in_default-clause-steps
returns-in_default-clause-steps g c order t rs h b f = let i = c.lower.ensures.steps order t rs h b f in omega arith

pub link-requires-clause-held : goal.link-requires-clause-held
link-requires-clause-held g c =
    subst (λ (z : Pooled g.row.T.Denot). IsHeld z c.in-Some.node) (sym c.lower.ensures.pool) (held g (goal.at.link-requires-clause-held g c).In-Some)

pub compare_probe-requires-clause-node : goal.compare_probe-requires-clause-node
compare_probe-requires-clause-node g c =
    let o = (goal.at.compare_probe-requires-clause-node g c).In-Some in let r = c.in-Some.node in let l = c.args.self.now in
    let tag_is = ap (λ (k : Link). k.tag) c.link.ensures.link ∙ ap (λ (z : Pooled g.row.T.Denot). (link_of z r.name l.slot).tag) c.lower.ensures.pool in
    tagged_read (g.O.NodeOrder.tag_of l.order) l.slot r (c.link.ensures.pool ∙ c.lower.ensures.pool) tag_is (held g o)
    (found_tag (g.O.NodeOrder.tag_of l.order) c.args.p.now.pool l.slot _ c.requires.0 r c.requires.1.tagged (first_is g o))

pub returns-in-Equal-clause-node : goal.returns-in-Equal-clause-node
returns-in-Equal-clause-node g c rs h =
    let o = goal.at.returns-in-Equal-clause-node g c in let l = c.args.self.now in
    found_some (g.O.NodeOrder.order l.order) (place g o.In-Some) (g.met.O.NodeOrder.monotone l.order c.args.probe) c.args.p.now.pool l.slot rs
    c.in-Some.node h.rising (sym c.in-Some.is ∙ c.lower.ensures.node rs h) (node_is g o.After-compare_probe (held g o.In-Some) ∙ ap is_eq c.in-Equal.is)

pub returns-in-Equal-clause-reads : goal.returns-in-Equal-clause-reads
returns-in-Equal-clause-reads g c order tag rs h b f =
    let i = bound_here g (goal.at.returns-in-Equal-clause-reads g c).In-Some order tag rs h b f in let j = c.link.ensures.reads in
    omega arith

pub returns-in-Equal-clause-steps : goal.returns-in-Equal-clause-steps
returns-in-Equal-clause-steps g c order t rs h b f = let i = c.lower.ensures.steps order t rs h b f in let j = c.compare_probe.ensures.steps in omega arith

pub returns-in_default-compare_probe : goal.returns-in_default-compare_probe
returns-in_default-compare_probe g c =
    let o = goal.at.returns-in_default-compare_probe g c in let l = c.args.self.now in record {
      node = λ rs h. found_other (g.O.NodeOrder.order l.order) (place g o.In-Some) (g.met.O.NodeOrder.monotone l.order c.args.probe) c.args.p.now.pool
          l.slot rs c.in-Some.node h.rising (sym c.in-Some.is ∙ c.lower.ensures.node rs h)
          (node_is g o.After-compare_probe (held g o.In-Some) ∙ not_here _ c.in_default-compare_probe.not-Equal);
      pool = c.link.ensures.pool ∙ c.lower.ensures.pool;
      reads = λ order tag rs h b f. (let i = bound_here g o.In-Some order tag rs h b f in let j = c.link.ensures.reads in omega arith);
      steps = λ order t rs h b f. (let i = c.lower.ensures.steps order t rs h b f in let j = c.compare_probe.ensures.steps in omega arith);
    }

pub returns-in_default-clause-reads : goal.returns-in_default-clause-reads
returns-in_default-clause-reads g c order tag rs h b f = let i = c.lower.ensures.reads order tag rs h b f in omega arith
