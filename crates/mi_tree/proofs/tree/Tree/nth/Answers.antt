-- The node of a rank in the tree is that of the list, and the height bounds what is read.
use Rattle.std.proofs.Common.{ap, ◌∙◌, arith}
use Rattle.mi_tree.specs.BinaryTree.{nth_of}
use Rattle.mi_tree.proofs.StandingLemmas.{bound}
use Rattle.mi_tree.proofs.tree.Tree.nth.Goals as goal

pub nth_in-requires-clause-tree : goal.nth_in-requires-clause-tree
nth_in-requires-clause-tree g c = let w = c.requires in (w.3.shape, w.3.rooted)

pub returns-clause-node : goal.returns-clause-node
returns-clause-node g c order tag rs h = c.nth_in.ensures.node h.shape h.rooted ∙ ap (λ k. nth_of k c.args.n) h.nodes_are

pub returns-clause-reads : goal.returns-clause-reads
returns-clause-reads g c order tag rs h b f =
    let a = c.nth_in.ensures.reads h.shape h.rooted in let d = bound h b f in omega arith
