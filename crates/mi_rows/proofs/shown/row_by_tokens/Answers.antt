-- What the writer has behind nothing is the compact text of the row.
use Rattle.std.proofs.Common.{◌≡◌, [], rules}
use Rattle.json.specs.Tree.{json_tokens}
use Rattle.serde_json.specs.Data.{Data}
use Rattle.serde_json.specs.Written.{outline}
use Rattle.mi_rows.specs.Rows.{row_data}
use Rattle.mi_rows.proofs.ShownLemmas.{text_alone}
use Rattle.mi_rows.proofs.shown.row_by_tokens.Goals as goal

pub returns : goal.returns
returns c =
    let row : Data = row_data c.args.columns.now c.args.id c.args.row.now in
    let begun : c.write_row.new.writer.before ≡ [] = search rules in
    let tokens : c.write_row.new.writer.tokens ≡ json_tokens (outline row) = search rules in
    text_alone row c.write_row.new.writer.tokens c.write_row.new.writer.before c.into_inner.result.items begun tokens c.into_inner.ensures.items
