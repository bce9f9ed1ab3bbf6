-- By the kind of the index.
use Rattle.std.proofs.Common.{◌≡◌, ◌∷◌, ◌++◌, sym, subst, ap, ◌∙◌}
use Rattle.mi_tree.specs.Walking.{beyond}
use Rattle.mi_index.specs.Standing.{slot_in, Stands}
use Rattle.mi_index.specs.Walks.{Follow}
use Rattle.mi_index.specs.declared.structure.Structure.{Structure}
use Rattle.mi_index.specs.declared.structure.Structure.TheVariants.{Sequenced}
use Rattle.mi_index.proofs.WalkLemmas.{list_follows}
use Rattle.mi_index.proofs.structure.Structure.walk.Goals as goal

pub rows_along-requires-clause-nodes : goal.rows_along-requires-clause-nodes
rows_along-requires-clause-nodes c =
    let q = c.requires.node in
    let l = c.in-Sequenced.field-0 in
    let m = c.args.p.now.pool in
    let slot : slot_in (Sequenced l) ≡ c.args.slot = ap slot_in (sym c.in-Sequenced.is) ∙ c.requires.slot in
    let stands : Stands (Sequenced l) m (q.0 ++ c.args.node ∷ q.1) = subst (λ (x : Structure). Stands x m (q.0 ++ c.args.node ∷ q.1)) c.in-Sequenced.is q.2 in (
      beyond c.args.direction q.0 q.1,
      subst (λ s. Follow m s c.args.direction (c.args.node ∷ beyond c.args.direction q.0 q.1))
          slot (list_follows l m c.args.direction q.0 c.args.node q.1 stands),
    )

pub returns-in-Sequenced-clause-rows : goal.returns-in-Sequenced-clause-rows
returns-in-Sequenced-clause-rows c xs ys h =
    let l = c.in-Sequenced.field-0 in
    let m = c.args.p.now.pool in
    let slot : slot_in (Sequenced l) ≡ c.args.slot = ap slot_in (sym c.in-Sequenced.is) ∙ c.requires.slot in
    let stands : Stands (Sequenced l) m (xs ++ c.args.node ∷ ys) = subst (λ (x : Structure). Stands x m (xs ++ c.args.node ∷ ys)) c.in-Sequenced.is h in
    c.rows_along.ensures.rows (beyond c.args.direction xs ys)
    (subst (λ s. Follow m s c.args.direction (c.args.node ∷ beyond c.args.direction xs ys))
    slot (list_follows l m c.args.direction xs c.args.node ys stands))
