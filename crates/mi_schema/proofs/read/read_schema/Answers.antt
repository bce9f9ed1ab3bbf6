-- A document is read as a schema, its draft is checked, and its first table is taken.
use Rattle.std.proofs.Common.{◌≡◌, Ok, Some, ap, sym, ◌∙◌, rules}
use Rattle.toml.specs.View.{table_view}
use Rattle.mi_schema.specs.Members.{Fails, schema_draft}
use Rattle.mi_schema.specs.Reading.{first_table, of_document, of_draft}
use Rattle.mi_schema.proofs.read.read_schema.Goals as goal

pub returns-in_err-draft : goal.returns-in_err-draft
returns-in_err-draft c =
    let misread : Fails c.in_err-draft.field-0.0 (schema_draft (table_view c.in_ok-members.members)) = c.in_err-draft.ensures in search rules

pub returns-in_err-catalog : goal.returns-in_err-catalog
returns-in_err-catalog c =
    let draft : schema_draft (table_view c.in_ok-members.members) ≡ Some c.in_ok-draft.draft = c.in_ok-draft.ensures in search rules

pub returns : goal.returns
returns c =
    ap (λ o. first_table (of_document schema_draft o)) c.in_ok-members.ensures.ok ∙ ap (λ o. first_table (of_draft o)) c.in_ok-draft.ensures
    ∙ ap first_table c.in_ok-catalog.ensures ∙ ap Ok (sym c.into_first.ensures)
