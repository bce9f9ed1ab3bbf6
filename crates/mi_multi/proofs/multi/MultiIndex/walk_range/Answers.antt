-- The rows of the nodes between the bounds are those of the ids between them.
use Rattle.std.proofs.Common.{◌≡◌, ◌+◌, ◌*◌, ◌≤◌, map, take, ap, sym, ◌∙◌, subst}
use Rattle.std.proofs.lemmas.Result.{IfOk-weaker}
use Rattle.mi_catalog.specs.Shape.{index_at}
use Rattle.mi_node.specs.Pool.{Pooled}
use Rattle.mi_order.specs.declared.stored.Stored.{Stored}
use Rattle.mi_index.specs.Ranges.{rows_in}
use Rattle.mi_index.specs.declared.walk.KeyRange.{KeyRange}
use Rattle.mi_index.specs.Standing.{Stands}
use Rattle.mi_index.specs.Walks.{shown_row}
use Rattle.mi_container.specs.Data.{as_table}
use Rattle.mi_multi.specs.Seen.{Seen}
use Rattle.mi_multi.proofs.CallLemmas.{sorted_reaches, in_order}
use Rattle.mi_multi.proofs.WalkLemmas.{of, rows_shown, stands_there, parts_are, range_rows, range_long, range_look}
use Rattle.mi_multi.proofs.multi.MultiIndex.walk_range.Goals as goal

pub structure_at-structure-requires : goal.structure_at-structure-requires
structure_at-structure-requires c = sorted_reaches c.self.inside c.self.invariant c.self.view_is c.args.index c.requires.index

pub walk_range-requires-clause-stands : goal.walk_range-requires-clause-stands
walk_range-requires-clause-stands c =
    let y = c.structure_at-structure.result.now in
    let q = in_order c.self.inside c.self.invariant c.self.view_is c.args.index c.structure_at-structure.ensures c.requires.index in
    (q.0, subst (λ (z : Pooled Stored). Stands y z q.0) (sym c.new-pool.ensures.pool) q.1, q.2)

pub walk_range-requires-clause-parts : goal.walk_range-requires-clause-parts
walk_range-requires-clause-parts c =
    parts_are c.self.inside c.self.invariant c.self.view_is c.args.index c.structure_at-structure.ensures c.requires.index ∙ sym c.parts.ensures

pub returns-clause-rows : goal.returns-clause-rows
returns-clause-rows c =
    let i = c.self.inside in let v = c.args in let y = c.structure_at-structure.result.now in let at = c.structure_at-structure.ensures in
    let rs = (of i c.self.invariant c.self.view_is v.index at).stood.rs in
    let w = v.self.now in let t = as_table w.plain in
    let g : KeyRange = record { parts = c.parts.result; lower = v.lower; upper = v.upper; direction = c.direction.result } in
    let parts : (index_at w.shape v.index).parts ≡ g.parts.now = ap (λ (s : Seen). (index_at s.shape v.index).parts) (sym c.self.view_is) ∙ sym c.parts.ensures in
    IfOk-weaker c.walk_range.result _ _
    (λ rows is.
    is
    ∙ ap (λ (z : Pooled Stored). take v.limit (rows_in g (map (shown_row z) rs))) c.new-pool.ensures.pool
    ∙ ap (λ k. take v.limit (rows_in g k)) (rows_shown i c.self.invariant c.self.view_is v.index at)
    ∙ range_rows w.shape t v.index g parts v.reverse v.limit c.direction.ensures)
    (c.walk_range.ensures.rows rs
    (subst (λ (z : Pooled Stored). Stands y z rs) (sym c.new-pool.ensures.pool) (stands_there i c.self.invariant c.self.view_is v.index at)))

pub returns-clause-steps : goal.returns-clause-steps
returns-clause-steps c =
    let i = c.self.inside in let v = c.args in let y = c.structure_at-structure.result.now in let at = c.structure_at-structure.ensures in
    let rs = (of i c.self.invariant c.self.view_is v.index at).stood.rs in
    let w = v.self.now in let t = as_table w.plain in
    let g : KeyRange = record { parts = c.parts.result; lower = v.lower; upper = v.upper; direction = c.direction.result } in
    let parts : (index_at w.shape v.index).parts ≡ g.parts.now = ap (λ (s : Seen). (index_at s.shape v.index).parts) (sym c.self.view_is) ∙ sym c.parts.ensures in
    let shown = ap (λ (z : Pooled Stored). map (shown_row z) rs) c.new-pool.ensures.pool ∙ rows_shown i c.self.invariant c.self.view_is v.index at in
    let long = range_long w.shape t v.index g parts v.reverse v.limit c.direction.ensures (map (shown_row c.new-pool.result.pool) rs) shown in
    range_look i c.self.invariant c.self.view_is v.index at v.steps.now.count _
    (λ b l.
    subst (λ n. c.walk_range.new.steps.count ≤ v.steps.now.count + (2 * b + n + 1)) long
    (c.walk_range.ensures.steps rs
    (subst (λ (z : Pooled Stored). Stands y z rs) (sym c.new-pool.ensures.pool) (stands_there i c.self.invariant c.self.view_is v.index at)) b l))
