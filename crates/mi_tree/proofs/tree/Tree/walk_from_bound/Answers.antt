-- The path to a place has what is ahead of it, and a level of the tree for each node on it at most.
use Rattle.std.proofs.Common.{subst}
use Rattle.std.specs.List.{position_or_len}
use Rattle.mi_tree.specs.BinaryTree.{height}
use Rattle.mi_tree.specs.Walking.{IsWalk, beyond_place}
use Rattle.mi_tree.specs.Probed.{is_past_node}
use Rattle.mi_tree.proofs.StandingLemmas.{bound, within, steady_in, tagged_in, enters_root}
use Rattle.mi_tree.proofs.tree.Tree.walk_from_bound.Goals as goal

pub start_at_bound-requires-clause-tree : goal.start_at_bound-requires-clause-tree
start_at_bound-requires-clause-tree g c =
    let w = c.requires in let v = c.args in let o = v.self.now.order in
    let up = steady_in v.is_upper (λ (x : g.row.T.Denot). g.O.NodeOrder.place o x v.probe) (g.met.O.NodeOrder.monotone o v.probe) w.1 in
    (height w.1.shape, w.1.shape, enters_root w.1 v.direction, tagged_in w.1, up)

pub returns-clause-walk : goal.returns-clause-walk
returns-clause-walk g c rs h =
    let v = c.args in let m = v.p.now.pool in let o = v.self.now.order in let place = λ (x : g.row.T.Denot). g.O.NodeOrder.place o x v.probe in
    let f = is_past_node v.is_upper place m in let up = steady_in v.is_upper place (g.met.O.NodeOrder.monotone o v.probe) h in
    let on = c.start_at_bound.ensures.walk (height h.shape) h.shape (enters_root h v.direction) up in (
      height h.shape,
      subst (λ k. IsWalk c.start_at_bound.result m (height h.shape) (beyond_place v.direction (position_or_len f k) k)) h.nodes_are on,
      λ b l. bound h b l,
    )

pub returns-clause-reads : goal.returns-clause-reads
returns-clause-reads g c order tag rs h b l = within h b l _ _ (c.start_at_bound.ensures.reads h.shape h.rooted)

pub returns-clause-steps : goal.returns-clause-steps
returns-clause-steps g c order tag rs h b l = within h b l _ _ (c.start_at_bound.ensures.steps h.shape h.rooted)
