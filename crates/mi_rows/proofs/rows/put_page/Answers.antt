-- The front, the rows and the end are the compact text of the reply.
use Rattle.std.proofs.Common.{◌≡◌, ◌++◌, [], ◌∷◌, map, take, ap, ◌∙◌, rules}
use Rattle.serde_json.specs.Data.{Items}
use Rattle.serde_json.specs.Written.{items_text}
use Rattle.std.specs.Prelude.{false}
use Rattle.mi_rows.specs.Rows.{rows_items}
use Rattle.mi_rows.specs.Shown.{rows_front}
use Rattle.mi_rows.proofs.ShownLemmas.{if_ok-weaker, items_between, rows_reply}
use Rattle.mi_rows.proofs.rows.put_page.Goals as goal

pub returns-clause-text : goal.returns-clause-text
returns-clause-text c =
    let rows : Items = rows_items c.args.columns.now (map (λ r. (r.0, r.1.now)) c.args.rows.now) in
    let old = take c.args.at c.args.text.now.items in
    let front = take c.in_ok-begun.begun c.put_behind.new.text.items in
    let begun : front ≡ old ++ rows_front c.args.more = search rules in
    if_ok-weaker c.put_behind-2.result _ _
    (λ end written.
    items_between old (rows_front c.args.more) (items_text false rows) front (take c.in_ok-end.end c.add_rows.new.text.items)
    (take end c.put_behind-2.new.text.items) 93 (125 ∷ []) begun c.in_ok-end.ensures.text written
    ∙ ap (λ t. old ++ t) (rows_reply c.args.more rows))
    c.put_behind-2.ensures.text
