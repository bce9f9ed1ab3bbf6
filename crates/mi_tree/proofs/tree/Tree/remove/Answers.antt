-- What is left when the node is taken out is the list without it, and its own link is as it was.
use Rattle.std.proofs.Common.{List, ◌∷◌, ◌++◌, refl}
use Rattle.mi_node.specs.Refs.{Ref}
use Rattle.mi_tree.specs.BinaryTree.{BinaryTree}
use Rattle.mi_tree.specs.Sorted.{HasTaken}
use Rattle.mi_tree.specs.Standing.{IsTree}
use Rattle.mi_tree.proofs.StandingLemmas.{can_take, rising_in, tagged_in, node_held, has_taken}
use Rattle.mi_tree.proofs.tree.Tree.remove.Given.{Over}
use Rattle.mi_tree.proofs.tree.Tree.remove.Goals.{After-take_out-self}
use Rattle.mi_tree.proofs.tree.Tree.remove.Goals as goal

module _ (g : Over) (c : After-take_out-self g) where
  -- what was taken out
  took : (xs ys : List Ref) (h : IsTree c.args.self.now c.args.p.now (g.O.NodeOrder.order c.args.self.now.order) (g.O.NodeOrder.tag_of c.args.self.now.order)
      (xs ++ c.args.node ∷ ys))
      → (u : BinaryTree) × HasTaken c.args.p.now c.take_out-self.new.p c.args.self.now.slot h.shape (xs ++ ys) c.take_out-self.result u
  took xs ys h = c.take_out-self.ensures.tree h.shape xs ys (can_take h) (rising_in h) h.nodes_are

pub link-requires-clause-held : goal.link-requires-clause-held
link-requires-clause-held g c = let w = c.requires in node_held w.0 c.args.node w.1 w.2

pub take_out-self-requires-clause-tree : goal.take_out-self-requires-clause-tree
take_out-self-requires-clause-tree g c =
    let w = c.requires in (w.2.shape, w.0, w.1, can_take w.2, rising_in w.2, tagged_in w.2, w.2.nodes_are)

pub returns-clause-tree : goal.returns-clause-tree
returns-clause-tree g c xs ys h = has_taken xs c.args.node ys h refl refl (took g (goal.at.returns-clause-tree g c).After-take_out-self xs ys h).1

pub returns-clause-keeps : goal.returns-clause-keeps
returns-clause-keeps g c xs ys h = let on = took g (goal.at.returns-clause-keeps g c).After-take_out-self xs ys h in on.1.keeps

pub returns-clause-tags : goal.returns-clause-tags
returns-clause-tags g c = let w = c.requires in let on = took g (goal.at.returns-clause-tags g c).After-take_out-self w.0 w.1 w.2 in on.1.tags
