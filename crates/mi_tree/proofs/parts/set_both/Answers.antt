-- Two nodes get their sides, and the one between them gets the two.
use Rattle.mi_tree.specs.BinaryTree.{BinaryTree, Fork}
use Rattle.mi_tree.specs.Joining.{IsBoth, IsFork}
use Rattle.mi_tree.proofs.JoinLemmas.{both_left, both_after, both_upper, fork_counted}
use Rattle.mi_tree.proofs.parts.set_both.Given.{Over}
use Rattle.mi_tree.proofs.parts.set_both.Goals.{After-set_fork-2}
use Rattle.mi_tree.proofs.parts.set_both.Goals as goal

module _ (g : Over) (c : After-set_fork-2 g) where
  -- the two that stand are sides of the third
  upper : {A B C D : BinaryTree} → IsBoth c.args.p.now c.args.slot c.args.x c.args.before c.args.y c.args.upper c.args.z c.args.after A B C D
      → IsFork c.set_fork-2.new.p c.args.slot c.args.y c.args.upper (Fork A c.args.x B) (Fork C c.args.z D)
  upper {A} {B} {C} {D} h =
      let e = c.set_fork.ensures in let f = c.set_fork-2.ensures in
      both_upper h e.keeps e.tags (e.tree A B (fork_counted (both_left h.four) h.first))
      f.keeps f.tags (f.tree C D (both_after h e.keeps e.tags))

pub set_fork-requires-clause-parts : goal.set_fork-requires-clause-parts
set_fork-requires-clause-parts g c = let w = c.requires.parts in (w.0, w.1, fork_counted (both_left w.4.four) w.4.first)

pub set_fork-requires-2-clause-parts : goal.set_fork-requires-2-clause-parts
set_fork-requires-2-clause-parts g c =
    let w = c.requires.parts in let e = c.set_fork.ensures in (w.2, w.3, both_after w.4 e.keeps e.tags)

pub set_fork-requires-3-clause-parts : goal.set_fork-requires-3-clause-parts
set_fork-requires-3-clause-parts g c =
    let w = c.requires.parts in
    (Fork w.0 c.args.x w.1, Fork w.2 c.args.z w.3, upper g (goal.at.set_fork-requires-3-clause-parts g c).After-set_fork-2 w.4)

pub returns-clause-tree : goal.returns-clause-tree
returns-clause-tree g c A B C D h =
    c.set_fork-3.ensures.tree (Fork A c.args.x B) (Fork C c.args.z D) (upper g (goal.at.returns-clause-tree g c).After-set_fork-2 h)
