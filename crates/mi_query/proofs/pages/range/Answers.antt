-- The page is what the walk lends, without the row that is one more.
use Rattle.std.proofs.Common.{◌≡◌, ◌<◌, ◌≤◌, ◌⊎◌, inl, inr, map, take, length, ap, sym, ◌∙◌, arith}
use Rattle.std.proofs.lemmas.Bool.{cases_lt}
use Rattle.mi_catalog.specs.Key.{Row}
use Rattle.mi_model.specs.Page.{between}
use Rattle.mi_model.specs.Table.{row}
use Rattle.mi_model.specs.Walk.{turned}
use Rattle.mi_model.specs.Database.{schema_of, table_of}
use Rattle.mi_model.proofs.PlaceLaws.{sorted_listed, listed_within}
use Rattle.mi_query.proofs.PageLemmas.{length-map_rows, walked_rows, walked_more, walked_steps, between_few}
use Rattle.mi_query.proofs.pages.range.Goals as goal

pub shows_each-requires-clause-index : goal.shows_each-requires-clause-index
shows_each-requires-clause-index g c =
    let d = g.D.Sessions.state c.args.db.now in
    listed_within (schema_of d c.args.table) c.args.index (sorted_listed _ c.requires.index)

pub returns-clause-rows : goal.returns-clause-rows
returns-clause-rows g c =
    let d = g.D.Sessions.state c.args.db.now in let s = schema_of d c.args.table in let t = table_of d c.args.table in let v = c.args in
    let enough : v.limit ≤ c.saturating_add-more.result = omega (arith, c.saturating_add-more.ensures) in
    c.page_of_walk.ensures.rows ∙ ap (take v.limit) c.in_ok-rows.ensures.rows
    ∙ walked_rows t (turned v.reverse (between s t v.index v.lower.now v.upper.now)) v.limit c.saturating_add-more.result enough

pub returns-clause-more : goal.returns-clause-more
returns-clause-more g c =
    let d = g.D.Sessions.state c.args.db.now in let s = schema_of d c.args.table in let t = table_of d c.args.table in let v = c.args in
    let ids = turned v.reverse (between s t v.index v.lower.now v.upper.now) in
    let few = between_few s t v.index v.lower.now v.upper.now v.reverse in
    let more = c.saturating_add-more.result in
    let long : length c.in_ok-rows.rows.items ≡ length (map (row t) (take more ids)) =
    sym (length-map_rows {B = Row} (λ r. (r.0, r.1.now)) c.in_ok-rows.rows.items) ∙ ap length c.in_ok-rows.ensures.rows in
    let enough : (v.limit < more) ⊎ (length ids ≤ v.limit) =
    elim (cases_lt v.limit more) [
      | inl beyond ↦ inl beyond
      | inr all ↦ inr (omega (arith, few, c.saturating_add-more.ensures, c.shows_each.ensures.long, c.shows_each.ensures.few))
    ] in
    c.page_of_walk.ensures.more ∙ walked_more t ids v.limit more _ long enough

pub returns-clause-steps : goal.returns-clause-steps
returns-clause-steps g c =
    let d = g.D.Sessions.state c.args.db.now in let s = schema_of d c.args.table in let t = table_of d c.args.table in let v = c.args in
    walked_steps t (turned v.reverse (between s t v.index v.lower.now v.upper.now)) v.limit c.saturating_add-more.result
    _ _ _ (omega (arith, c.saturating_add-more.ensures)) c.walk_range.ensures.steps

pub returns-in_err-rows-clause-steps : goal.returns-in_err-rows-clause-steps
returns-in_err-rows-clause-steps g c =
    let d = g.D.Sessions.state c.args.db.now in let s = schema_of d c.args.table in let t = table_of d c.args.table in let v = c.args in
    walked_steps t (turned v.reverse (between s t v.index v.lower.now v.upper.now)) v.limit c.saturating_add-more.result
    _ _ _ (omega (arith, c.saturating_add-more.ensures)) c.walk_range.ensures.steps
