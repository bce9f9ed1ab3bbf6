-- The rank in the tree is the number of nodes in front in the list, and the height bounds what is read.
use Rattle.std.proofs.Common.{arith}
use Rattle.mi_tree.proofs.StandingLemmas.{within, bound_node, can_take, rising_in, tagged_in, tree_moved, node_held}
use Rattle.mi_tree.proofs.tree.Tree.rank.Goals as goal

pub link-requires-clause-held : goal.link-requires-clause-held
link-requires-clause-held g c = let w = c.requires in node_held w.0 c.args.node w.1 w.2

pub rank_in-requires-clause-tree : goal.rank_in-requires-clause-tree
rank_in-requires-clause-tree g c =
    let w = c.requires in let h = tree_moved c.link.ensures.pool w.2 in (h.shape, w.0, w.1, can_take h, rising_in h, tagged_in h, h.nodes_are)

pub returns-clause-rank : goal.returns-clause-rank
returns-clause-rank g c xs ys was =
    let h = tree_moved c.link.ensures.pool was in c.rank_in.ensures.rank h.shape xs ys (can_take h) (rising_in h) h.nodes_are

pub returns-clause-reads : goal.returns-clause-reads
returns-clause-reads g c order t rs was b f =
    let w = c.requires in let same = c.link.ensures.pool in let h = tree_moved same was in let e = c.link.ensures.reads in
    let d = bound_node h w.0 c.args.node w.1 (tree_moved same w.2) b f in let a = c.rank_in.ensures.reads h.shape h.rooted in
    omega arith

pub returns-clause-steps : goal.returns-clause-steps
returns-clause-steps g c order t rs was b f =
    let h = tree_moved c.link.ensures.pool was in within h b f _ _ (c.rank_in.ensures.steps h.shape h.rooted)
