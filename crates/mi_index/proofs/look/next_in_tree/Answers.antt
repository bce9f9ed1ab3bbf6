-- A neighbour in the tree.
use Rattle.std.proofs.Common.{sym, subst, ◌++◌, ◌∷◌}
use Rattle.mi_index.specs.Standing.{Stands}
use Rattle.mi_index.specs.declared.structure.Structure.TheVariants.{Sorted}
use Rattle.mi_index.proofs.look.next_in_tree.Goals as goal

pub next-requires : goal.next-requires
next-requires c =
    let t = c.args.tree.now in let q = c.requires in (q.0, q.1, subst (λ z. Stands (Sorted t) z (q.0 ++ c.args.node ∷ q.1)) (sym c.new.ensures.pool) q.2)

pub returns : goal.returns
returns c xs ys h = let t = c.args.tree.now in c.next.ensures.node xs ys (subst (λ z. Stands (Sorted t) z (xs ++ c.args.node ∷ ys)) (sym c.new.ensures.pool) h)
