-- A column's value is written as it stands in the record.
use Rattle.std.proofs.Common.{◌≡◌, ◌++◌, Some, None, OnOk, option_map, slice_get, subst, sym, ap, ◌∙◌}
use Rattle.json.specs.Tree.{json_tokens}
use Rattle.serde_json.specs.Written.{outline}
use Rattle.mi_value.specs.Lent.{lent}
use Rattle.mi_rows.specs.Shown.{source_data}
use Rattle.mi_rows.proofs.ShownLemmas.{data_there, data_missing}
use Rattle.mi_rows.proofs.shown.write_source.Goals as goal

pub returns-in-Some-clause-tokens : goal.returns-in-Some-clause-tokens
returns-in-Some-clause-tokens c =
    let row = c.args.row.now in
    let there : Some (lent c.in-Some.value) ≡ slice_get row c.in-Column.i = ap (option_map lent) (sym c.in-Some.is) ∙ c.get.ensures in
    let shown = sym (ap (source_data c.args.id row) c.in-Column.is ∙ data_there row c.in-Column.i (lent c.in-Some.value) there) in
    subst (λ d. OnOk c.write_value.result
    (c.write_value.new.writer.tokens ≡ c.args.writer.now.tokens ++ json_tokens (outline d))) shown c.write_value.ensures.tokens

pub returns-in-None-clause-tokens : goal.returns-in-None-clause-tokens
returns-in-None-clause-tokens c =
    let row = c.args.row.now in
    let missing : None ≡ slice_get row c.in-Column.i = ap (option_map lent) (sym c.in-None.is) ∙ c.get.ensures in
    let shown = sym (ap (source_data c.args.id row) c.in-Column.is ∙ data_missing row c.in-Column.i missing) in
    subst (λ d. OnOk c.null.result (c.null.new.self.tokens ≡ c.args.writer.now.tokens ++ json_tokens (outline d))) shown c.null.ensures.ok
