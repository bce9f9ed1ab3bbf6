-- The walk begins where the range does, and goes to its end.
use Rattle.std.proofs.Common.{◌≡◌, map, take, length, ap, sym, ◌∙◌, subst, arith}
use Rattle.std.specs.List.{take_while}
use Rattle.std.proofs.lemmas.Result.{IfOk-weaker}
use Rattle.mi_node.specs.Pool.{Pooled}
use Rattle.mi_node.specs.Neighbours.{AreHeld}
use Rattle.mi_tree.specs.Walking.{IsWalk}
use Rattle.mi_order.specs.declared.stored.Stored.{Stored}
use Rattle.mi_index.specs.Ranges.{rows_in, stays_in}
use Rattle.mi_index.specs.Walks.{shown_row}
use Rattle.mi_index.proofs.RangeLemmas.{range_walked}
use Rattle.mi_index.proofs.walk.rows_between.Goals as goal

pub rows_ahead-requires : goal.rows_ahead-requires
rows_ahead-requires c =
    let q = c.requires.stands in let w = c.walk-walk.ensures.walk q.0 q.1 in let same = sym c.walk-walk.ensures.pool in (
      w.levels,
      w.us,
      subst (λ (z : Pooled Stored). IsWalk c.walk-walk.result z w.levels w.us) same w.walk,
      subst (λ (z : Pooled Stored). AreHeld z w.us) same w.held,
    )

pub returns-clause-rows : goal.returns-clause-rows
returns-clause-rows c rs h =
    let v = c.args in let g = v.range.now in let m = v.p.now.pool in
    let w = c.walk-walk.ensures.walk rs h in let same = c.walk-walk.ensures.pool in
    IfOk-weaker c.rows_ahead.result _ _
    (λ rows is.
    is
    ∙ ap (λ (z : Pooled Stored). take v.limit (take_while (stays_in g) (map (shown_row z) w.us))) same
    ∙ ap (take v.limit) (range_walked v.tree.now m rs h g c.walk-walk.result c.requires.parts w))
    (c.rows_ahead.ensures.rows w.levels w.us (subst (λ (z : Pooled Stored). IsWalk c.walk-walk.result z w.levels w.us) (sym same) w.walk))

pub returns-clause-reads : goal.returns-clause-reads
returns-clause-reads c rs h b l =
    let w = c.walk-walk.ensures.walk rs h in
    let begun = c.walk-walk.ensures.reads rs h b l in
    let low = w.low b l in
    IfOk-weaker c.rows_ahead.result _ _ (λ rows few. omega (arith, few, begun, low))
    (c.rows_ahead.ensures.reads w.levels w.us (subst (λ (z : Pooled Stored). IsWalk c.walk-walk.result z w.levels w.us) (sym c.walk-walk.ensures.pool) w.walk))

pub returns-clause-steps : goal.returns-clause-steps
returns-clause-steps c rs h b l =
    let v = c.args in let g = v.range.now in let m = v.p.now.pool in
    let w = c.walk-walk.ensures.walk rs h in let same = c.walk-walk.ensures.pool in
    let begun = c.walk-walk.ensures.steps rs h b l in
    let went = c.rows_ahead.ensures.steps w.levels w.us (subst (λ (z : Pooled Stored). IsWalk c.walk-walk.result z w.levels w.us) (sym same) w.walk) in
    let long : length (take v.limit (take_while (stays_in g) (map (shown_row c.walk-walk.new.p.pool) w.us)))
    ≡ length (take v.limit (rows_in g (map (shown_row m) rs))) =
    ap (λ (z : Pooled Stored). length (take v.limit (take_while (stays_in g) (map (shown_row z) w.us)))) same
    ∙ ap (λ rows. length (take v.limit rows)) (range_walked v.tree.now m rs h g c.walk-walk.result c.requires.parts w) in
    omega (arith, begun, went, long)
