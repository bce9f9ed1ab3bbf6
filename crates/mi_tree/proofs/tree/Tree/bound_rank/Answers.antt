-- The place of the first that is past the probe, under the root.
use Rattle.std.proofs.Common.{ap, ◌∙◌}
use Rattle.std.specs.List.{position_or_len}
use Rattle.mi_tree.proofs.StandingLemmas.{within, ranks_root}
use Rattle.mi_tree.proofs.tree.Tree.bound_rank.Goals as goal

pub bound_rank_in-requires-clause-slot : goal.bound_rank_in-requires-clause-slot
bound_rank_in-requires-clause-slot g c = c.requires.1.has_slot

pub bound_rank_in-requires-clause-tree : goal.bound_rank_in-requires-clause-tree
bound_rank_in-requires-clause-tree g c =
    let v = c.args in let o = v.self.now.order in
    ranks_root v.is_upper (λ (x : g.row.T.Denot). g.O.NodeOrder.place o x v.probe) (g.met.O.NodeOrder.monotone o v.probe) c.requires.1

pub returns-clause-rank : goal.returns-clause-rank
returns-clause-rank g c rs h = c.bound_rank_in.ensures.rank h.shape h.rooted ∙ ap (position_or_len _) h.nodes_are

pub returns-clause-reads : goal.returns-clause-reads
returns-clause-reads g c order tag rs h b f = within h b f _ _ (c.bound_rank_in.ensures.reads h.shape h.rooted)

pub returns-clause-steps : goal.returns-clause-steps
returns-clause-steps g c order tag rs h b f = within h b f _ _ (c.bound_rank_in.ensures.steps h.shape h.rooted)
