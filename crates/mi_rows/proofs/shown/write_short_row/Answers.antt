-- A row that is shorter than the columns shows the columns that it has values for.
use Rattle.std.proofs.Common.{◌≡◌, ◌≤◌, ◌++◌, length, take, codes, subst, ap, ◌∙◌, arith}
use Rattle.std.specs.Prelude.{OnOk}
use Rattle.json.specs.Tree.{json_tokens}
use Rattle.serde_json.specs.Data.{Members, number, unsigned, object, no_members, put}
use Rattle.serde_json.specs.Written.{outline}
use Rattle.mi_rows.specs.Rows.{with_values, row_members}
use Rattle.mi_rows.specs.Shown.{shown_members}
use Rattle.mi_rows.proofs.ShownLemmas.{with_values-known}
use Rattle.mi_rows.proofs.shown.write_short_row.Goals as goal

pub returns-clause-tokens : goal.returns-clause-tokens
returns-clause-tokens c =
    let vs = c.args.row.now in
    let start : Members = put (codes "id") (number (unsigned c.args.id)) no_members in
    let front : c.split_at.result.0.now ≡ take (length vs) c.args.columns.now = c.split_at.ensures.front
    ∙ ap (λ n. take n c.args.columns.now) c.column_count.ensures in
    let fits : length c.split_at.result.0.now ≤ length vs = omega (arith, c.split_at.ensures.front_len, c.column_count.ensures) in
    let shown : shown_members c.args.id vs c.row_order-order.result.items ≡ row_members c.split_at.result.0.now c.args.id vs =
    c.row_order-order.ensures.members c.args.id vs fits in
    let is : shown_members c.args.id vs c.row_order-order.result.items ≡ row_members c.args.columns.now c.args.id vs =
    shown ∙ ap (λ cs. with_values cs vs start) front ∙ with_values-known c.args.columns.now vs start in
    let lent : c.as_slice.result.now ≡ c.row_order-order.result.items = c.as_slice.ensures.value in
    subst (λ ms. OnOk c.write_ordered.result (c.write_ordered.new.writer.tokens ≡ c.args.writer.now.tokens ++ json_tokens (outline (object ms))))
    (ap (shown_members c.args.id vs) lent ∙ is) c.write_ordered.ensures.tokens
