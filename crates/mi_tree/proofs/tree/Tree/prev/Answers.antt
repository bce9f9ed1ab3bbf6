-- The node before one of rank r is that of rank r - 1, and before the first there is none.
use Rattle.std.proofs.Common.{◌≡◌, ◌-◌, suc, ◌∷◌, length, sym, ◌∙◌, arith}
use Rattle.mi_tree.proofs.BinaryTreeLemmas.{nth-last, last-none}
use Rattle.mi_tree.proofs.StandingLemmas.{tree_moved}
use Rattle.mi_tree.proofs.tree.Tree.prev.Goals as goal

pub nth-requires : goal.nth-requires
nth-requires g c = (_, _, _, tree_moved c.rank-rank.ensures.pool c.requires.2)

pub returns-then-rank-eq0-clause-node : goal.returns-then-rank-eq0-clause-node
returns-then-rank-eq0-clause-node g c xs ys h = last-none xs (sym (c.rank-rank.ensures.rank xs ys h) ∙ c.if-rank-eq0.true)

pub returns-then-rank-eq0-clause-reads : goal.returns-then-rank-eq0-clause-reads
returns-then-rank-eq0-clause-reads g c order tag rs h b f = let i = c.rank-rank.ensures.reads order tag rs h b f in omega arith

pub returns-else-rank-eq0-clause-node : goal.returns-else-rank-eq0-clause-node
returns-else-rank-eq0-clause-node g c xs ys h =
    let at : length xs ≡ suc (c.rank-rank.result - 1) = let e = c.rank-rank.ensures.rank xs ys h in omega arith in
    c.nth.ensures.node _ _ _ (tree_moved c.rank-rank.ensures.pool h) ∙ nth-last xs (c.args.node ∷ ys) (c.rank-rank.result - 1) at

pub returns-else-rank-eq0-clause-reads : goal.returns-else-rank-eq0-clause-reads
returns-else-rank-eq0-clause-reads g c order tag rs h b f =
    let i = c.rank-rank.ensures.reads order tag rs h b f in let j = c.nth.ensures.reads order tag rs (tree_moved c.rank-rank.ensures.pool h) b f in
    omega arith
