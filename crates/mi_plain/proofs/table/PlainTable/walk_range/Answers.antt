-- As many rows from where the range begins as stand between its ranks.
use Rattle.std.proofs.Common.{◌≡◌, ◌-◌, min, map, take, ap, sym, ◌∙◌, arith}
use Rattle.std.proofs.lemmas.Result.{IfOk-weaker}
use Rattle.mi_model.specs.Table.{row}
use Rattle.mi_model.proofs.PlaceLaws.{sorted_listed}
use Rattle.mi_model.proofs.QueryLaws.{rank_from, rank_to}
use Rattle.mi_plain.specs.Boundary.{begun}
use Rattle.mi_plain.proofs.WalkLemmas.{range_part, range_none, begun_rows, begun_there}
use Rattle.mi_plain.proofs.table.PlainTable.walk_range.Goals as goal

pub returns-in_default-clause-rows : goal.returns-in_default-clause-rows
returns-in_default-clause-rows c =
    let s = c.args.schema.now in let t = c.args.self.now in let v = c.args in
    ap (map (λ r. (r.0, r.1.now))) c.new.ensures.items
    ∙ sym (ap (map (row t)) (range_none s t v.x c.requires.kind v.lower.now v.upper.now v.reverse v.limit (sym c.begin.ensures ∙ c.in_default.is)))

pub walk-requires-clause-kind : goal.walk-requires-clause-kind
walk-requires-clause-kind c = sorted_listed _ c.requires.kind

pub walk-requires-clause-first : goal.walk-requires-clause-first
walk-requires-clause-first c =
    let v = c.args in
    begun_there v.schema.now v.self.now v.x c.requires.kind c.requires.is v.lower.now v.upper.now v.reverse c.in-Some.first
    (sym c.begin.ensures ∙ c.in-Some.is)

pub returns-clause-rows : goal.returns-clause-rows
returns-clause-rows c =
    let s = c.args.schema.now in let t = c.args.self.now in let v = c.args in
    let between : c.saturating_sub.result ≡ rank_to s t v.x v.upper.now - rank_from s t v.x v.lower.now =
    omega (arith, c.saturating_sub.ensures, c.rank_from-from.ensures, c.rank_to-to.ensures) in
    IfOk-weaker c.walk.result _ _
    (λ rows is.
    is
    ∙ begun_rows s t v.x c.requires.kind c.requires.is v.lower.now v.upper.now v.reverse c.min-count.result c.in-Some.first
    (sym c.begin.ensures ∙ c.in-Some.is)
    ∙ ap (map (row t)) (ap (λ n. take n (begun s t v.x v.lower.now v.upper.now v.reverse)) (c.min-count.ensures ∙ ap (min v.limit) between)
    ∙ range_part s t v.x c.requires.kind v.lower.now v.upper.now v.reverse v.limit))
    c.walk.ensures.rows
