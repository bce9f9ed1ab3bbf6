-- The page is that from the first id on, and it is empty where there is none.
use Rattle.std.proofs.Common.{◌≡◌, ap, sym, map, ◌∙◌, subst}
use Rattle.std.specs.Prelude.{IfOk}
use Rattle.mi_model.specs.Page as page
use Rattle.mi_model.specs.Table.{row}
use Rattle.mi_model.specs.View.{view}
use Rattle.mi_model.specs.Kinds.{shows_one_list}
use Rattle.mi_model.specs.Verdict.{has_place}
use Rattle.mi_model.specs.Database.{schema_of, table_of}
use Rattle.mi_model.proofs.PlaceLaws.{once_of_each}
use Rattle.mi_query.specs.Pages.{place_behind}
use Rattle.mi_query.proofs.ShownLemmas.{place_is_there}
use Rattle.mi_query.proofs.PageLemmas.{page_none, page_at, list_is}
use Rattle.mi_query.proofs.LookUpLemmas.{ok_then}
use Rattle.mi_query.proofs.pages.list.Goals as goal

pub returns-in_default-clause-rows : goal.returns-in_default-clause-rows
returns-in_default-clause-rows g c =
    let d = g.D.Sessions.state c.args.db.now in
    let s = schema_of d c.args.table in
    let t = table_of d c.args.table in
    let first = (ok_then (has_place t c.args.after) _ _ _ c.in_ok-first.ensures.first).1 in
    ap (map (λ r. (r.0, r.1.now))) c.new.ensures.items
    ∙ sym (ap (λ (p : page.Page). map (row t) p.ids) (sym (list_is s t c.args.index c.args.after c.args.limit)
    ∙ page_none s t c.args.index (place_behind (view s t c.args.index) c.args.after) c.args.limit (sym first ∙ c.in_default.is)))

pub returns-in_default-clause-more : goal.returns-in_default-clause-more
returns-in_default-clause-more g c =
    let d = g.D.Sessions.state c.args.db.now in
    let s = schema_of d c.args.table in
    let t = table_of d c.args.table in
    let first = (ok_then (has_place t c.args.after) _ _ _ c.in_ok-first.ensures.first).1 in
    sym (ap (λ (p : page.Page). p.more) (sym (list_is s t c.args.index c.args.after c.args.limit)
    ∙ page_none s t c.args.index (place_behind (view s t c.args.index) c.args.after) c.args.limit (sym first ∙ c.in_default.is)))

pub page_from-requires-clause-first : goal.page_from-requires-clause-first
page_from-requires-clause-first g c =
    let d = g.D.Sessions.state c.args.db.now in
    let t = table_of d c.args.table in
    let first = (ok_then (has_place t c.args.after) _ _ _ c.in_ok-first.ensures.first).1 in
    place_is_there d c.args.table c.args.index c.keeps_rules.ensures c.requires.table (ap shows_one_list c.requires.index)
    (place_behind (view (schema_of d c.args.table) t c.args.index) c.args.after) c.in-Some.first
    (sym first ∙ c.in-Some.is)

pub returns-clause-rows : goal.returns-clause-rows
returns-clause-rows g c =
    let d = g.D.Sessions.state c.args.db.now in
    let s = schema_of d c.args.table in
    let t = table_of d c.args.table in
    let first = (ok_then (has_place t c.args.after) _ _ _ c.in_ok-first.ensures.first).1 in
    subst (λ (q : page.Page). IfOk c.page_from.result (λ p. map (λ r. (r.0, r.1.now)) p.rows.items ≡ map (row t) q.ids))
    (page_at s t c.args.index (place_behind (view s t c.args.index) c.args.after) c.args.limit c.in-Some.first (sym first ∙ c.in-Some.is)
    (once_of_each t _ c.shows_each.ensures.each)
    ∙ list_is s t c.args.index c.args.after c.args.limit)
    c.page_from.ensures.rows

pub returns-clause-more : goal.returns-clause-more
returns-clause-more g c =
    let d = g.D.Sessions.state c.args.db.now in
    let s = schema_of d c.args.table in
    let t = table_of d c.args.table in
    let first = (ok_then (has_place t c.args.after) _ _ _ c.in_ok-first.ensures.first).1 in
    subst (λ (q : page.Page). IfOk c.page_from.result (λ p. p.more ≡ q.more))
    (page_at s t c.args.index (place_behind (view s t c.args.index) c.args.after) c.args.limit c.in-Some.first (sym first ∙ c.in-Some.is)
    (once_of_each t _ c.shows_each.ensures.each)
    ∙ list_is s t c.args.index c.args.after c.args.limit)
    c.page_from.ensures.more
