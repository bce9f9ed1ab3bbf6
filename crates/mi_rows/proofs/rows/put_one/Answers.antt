-- The front, the row and the bracket are the compact text of the reply.
use Rattle.std.proofs.Common.{◌++◌, [], ◌∷◌, codes, take, ap, ◌∙◌}
use Rattle.serde_json.specs.Data.{Data}
use Rattle.serde_json.specs.Written.{compact_text}
use Rattle.mi_rows.specs.Rows.{row_data}
use Rattle.mi_rows.proofs.ShownLemmas.{if_ok-weaker, text_between, row_reply}
use Rattle.mi_rows.proofs.rows.put_one.Goals as goal

pub returns-clause-text : goal.returns-clause-text
returns-clause-text c =
    let row : Data = row_data c.args.columns.now c.args.id c.args.row.now in
    let old = take c.args.at c.args.text.now.items in
    if_ok-weaker c.put_behind-2.result _ _
    (λ end written.
    text_between old (codes "{\"ok\":true,\"row\":") (compact_text row) (125 ∷ []) (take c.in_ok-begun.begun c.put_behind.new.text.items)
    (take c.in_ok-end.end c.add_row.new.text.items) (take end c.put_behind-2.new.text.items) c.in_ok-begun.ensures.text c.in_ok-end.ensures.text written
    ∙ ap (λ t. old ++ t) (row_reply row))
    c.put_behind-2.ensures.text
