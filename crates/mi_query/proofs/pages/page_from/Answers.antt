-- The page is what the walk lends, without the row that is one more.
use Rattle.std.proofs.Common.{◌≡◌, ◌<◌, ◌≤◌, ◌⊎◌, inl, inr, false, take, length, ap, sym, ◌∙◌, arith}
use Rattle.std.proofs.lemmas.Bool.{cases_lt}
use Rattle.mi_catalog.specs.Key.{Row}
use Rattle.mi_catalog.specs.Kinds.{shows_one_list}
use Rattle.mi_model.specs.View.{view}
use Rattle.mi_model.specs.Database.{schema_of, table_of}
use Rattle.mi_model.specs.Walk.{from_in, rows_from}
use Rattle.mi_model.proofs.PlaceLaws.{listed_within}
use Rattle.mi_query.proofs.PageLemmas.{length-map_rows, walked_rows, walked_more, from_few}
use Rattle.mi_query.proofs.pages.page_from.Goals as goal

pub shows_each-requires-clause-index : goal.shows_each-requires-clause-index
shows_each-requires-clause-index g c =
    let d = g.D.Sessions.state c.args.db.now in listed_within (schema_of d c.args.table) c.args.index (ap shows_one_list c.requires.index)

pub returns-clause-rows : goal.returns-clause-rows
returns-clause-rows g c =
    let d = g.D.Sessions.state c.args.db.now in let s = schema_of d c.args.table in let t = table_of d c.args.table in
    let enough : c.args.limit ≤ c.saturating_add.result = omega (arith, c.saturating_add.ensures) in
    c.page_of_walk.ensures.rows ∙ ap (take c.args.limit) c.in_ok-rows.ensures.rows
    ∙ walked_rows t (from_in (view s t c.args.index) c.args.first) c.args.limit c.saturating_add.result enough

pub returns-clause-more : goal.returns-clause-more
returns-clause-more g c =
    let d = g.D.Sessions.state c.args.db.now in let s = schema_of d c.args.table in let t = table_of d c.args.table in
    let ids = view s t c.args.index in
    let few = from_few ids c.args.first in
    let more = c.saturating_add.result in
    let long : length c.in_ok-rows.rows.items ≡ length (rows_from s t c.args.index false c.args.first more) =
    sym (length-map_rows {B = Row} (λ r. (r.0, r.1.now)) c.in_ok-rows.rows.items) ∙ ap length c.in_ok-rows.ensures.rows in
    let enough : (c.args.limit < more) ⊎ (length (from_in ids c.args.first) ≤ c.args.limit) =
    elim (cases_lt c.args.limit more) [
      | inl beyond ↦ inl beyond
      | inr all ↦ inr (omega (arith, few, c.saturating_add.ensures, c.shows_each.ensures.long, c.shows_each.ensures.few))
    ] in
    c.page_of_walk.ensures.more ∙ walked_more t (from_in ids c.args.first) c.args.limit more _ long enough
