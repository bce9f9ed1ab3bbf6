-- The rows of a walk from the row's node are those of the ids from there on.
use Rattle.std.proofs.Common.{◌∷◌, ◌++◌, map, take, ap, sym, ◌∙◌, subst}
use Rattle.std.proofs.lemmas.Result.{IfOk-weaker}
use Rattle.mi_node.specs.Pool.{Pooled}
use Rattle.mi_tree.specs.Walking.{beyond}
use Rattle.mi_tree.specs.declared.walk.Direction.{Direction}
use Rattle.mi_index.specs.Standing.{Stands}
use Rattle.mi_index.specs.Walks.{shown_row}
use Rattle.mi_order.specs.declared.stored.Stored.{Stored}
use Rattle.mi_multi.proofs.CallLemmas.{listed_reaches, sequenced_lists, absent, between_listed}
use Rattle.mi_multi.proofs.WalkLemmas.{a, slot_is, rows_are, stood}
use Rattle.mi_multi.proofs.multi.MultiIndex.walk.Goals as goal

pub returns-in_default : goal.returns-in_default
returns-in_default c = absurd
    (absent c.self.inside c.self.invariant c.self.view_is c.args.first c.live.ensures c.in_default.is c.requires.first)

pub structure_at-structure-requires : goal.structure_at-structure-requires
structure_at-structure-requires c = listed_reaches c.self.inside c.self.invariant c.self.view_is c.args.index
    (sequenced_lists c.self.inside c.self.invariant c.self.view_is c.args.index c.requires.index)

pub walk-requires-clause-slot : goal.walk-requires-clause-slot
walk-requires-clause-slot c =
    slot_is c.self.inside c.self.invariant c.args.self.now c.self.view_is c.args.index c.structure_at-structure.result.now c.structure_at-structure.ensures
    c.args.first c.in-Some.node (sym c.live.ensures ∙ c.in-Some.is)

pub walk-requires-clause-node : goal.walk-requires-clause-node
walk-requires-clause-node c =
    let y = c.structure_at-structure.result.now in
    let q =
    between_listed c.self.inside c.self.invariant c.self.view_is c.args.index c.structure_at-structure.ensures
    c.args.first c.live.ensures c.in-Some.is c.requires.index in
    (q.0, q.1, subst (λ (z : Pooled Stored). Stands y z (q.0 ++ c.in-Some.node ∷ q.1)) (sym c.new-pool.ensures.pool) q.2, q.3)

pub returns : goal.returns
returns c =
    let i = c.self.inside in
    let y = c.structure_at-structure.result.now in
    let node = c.in-Some.node in
    let there = sym c.live.ensures ∙ c.in-Some.is in
    let around = a i c.self.invariant c.args.self.now c.self.view_is c.args.index y c.structure_at-structure.ensures c.args.first node there in
    let stands = stood i c.self.invariant c.args.self.now c.self.view_is c.args.index y c.structure_at-structure.ensures c.args.first node there in
    IfOk-weaker c.walk.result _ _
    (λ rows is.
    is
    ∙ ap (λ (z : Pooled Stored). map (shown_row z) (take c.args.limit (node ∷ beyond c.direction.result around.xs around.ys))) c.new-pool.ensures.pool
    ∙ ap (λ (d : Direction). map (shown_row i.nodes.pool) (take c.args.limit (node ∷ beyond d around.xs around.ys))) c.direction.ensures
    ∙ rows_are i c.self.invariant c.args.self.now c.self.view_is c.args.index y
    c.structure_at-structure.ensures c.args.first node there c.args.reverse c.args.limit)
    (c.walk.ensures.rows around.xs around.ys (subst (λ (z : Pooled Stored). Stands y z (around.xs ++ node ∷ around.ys)) (sym c.new-pool.ensures.pool) stands))
