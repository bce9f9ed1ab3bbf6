-- The node after one of rank r is that of rank r + 1.
use Rattle.std.proofs.Common.{◌≡◌, ◌+◌, ◌<◌, ◌^◌, suc, ◌∷◌, ◌++◌, length, ap, ◌∙◌, arith, length-append}
use Rattle.mi_tree.specs.BinaryTree.{nth_of}
use Rattle.mi_tree.proofs.BinaryTreeLemmas.{nth-after, nth-first}
use Rattle.mi_tree.proofs.StandingLemmas.{tree_moved}
use Rattle.mi_tree.proofs.tree.Tree.next.Goals as goal

pub overflow_add-rank : goal.overflow_add-rank
overflow_add-rank g c =
    let w = c.requires in let e = c.rank-rank.ensures.rank w.0 w.1 w.2 in let f = w.2.fits in let a = length-append w.0 (c.args.node ∷ w.1) in
    let fits : c.rank-rank.result + 1 < 2 ^ 32 = omega arith in record { fits = fits }

pub nth-requires : goal.nth-requires
nth-requires g c = (_, _, _, tree_moved c.rank-rank.ensures.pool c.requires.2)

pub returns-clause-node : goal.returns-clause-node
returns-clause-node g c xs ys h =
    let at : c.rank-rank.result + 1 ≡ suc (length xs + 0) = let e = c.rank-rank.ensures.rank xs ys h in omega arith in let x = c.args.node in
    c.nth.ensures.node _ _ _ (tree_moved c.rank-rank.ensures.pool h) ∙ ap (nth_of (xs ++ x ∷ ys)) at ∙ nth-after xs x ys 0 ∙ nth-first ys

pub returns-clause-reads : goal.returns-clause-reads
returns-clause-reads g c order tag rs h b f =
    let i = c.rank-rank.ensures.reads order tag rs h b f in let j = c.nth.ensures.reads order tag rs (tree_moved c.rank-rank.ensures.pool h) b f in
    omega arith
