-- What is read in one pass, or by `serde_json`, is the value that the bytes are; what it refuses, but for memory, is none.
use Rattle.std.proofs.Common.{◌≡◌, Some, IfOk, inr, refl, sym, ap, ◌∙◌, subst}
use Rattle.serde_json.specs.Read.{read}
use Rattle.mi_tokens.specs.Meaning.{meaning}
use Rattle.mi_request.proofs.ParsingLemmas.{json-found, kept_found, json-refused}
use Rattle.mi_request.proofs.value.read_value.Goals as goal

pub returns-in_default-clause-err : goal.returns-in_default-clause-err
returns-in_default-clause-err c = inr (refl, json-refused c.args.bytes.now (λ utf8. absurd (c.in_default.ensures.cases utf8)))

pub returns-in-Some-clause-ok : goal.returns-in-Some-clause-ok
returns-in-Some-clause-ok c =
    let text = c.in-Ok.ensures.cases in
    json-found c.args.bytes.now (meaning c.in-Some.value) text.1 (ap read (sym text.0) ∙ c.in-Some.ensures)

pub returns-in-None-clause-ok : goal.returns-in-None-clause-ok
returns-in-None-clause-ok c =
    let text = c.in-Ok.ensures.cases in
    kept_found c.args.bytes.now c.kept_value.result text.1 (subst (λ t. IfOk c.kept_value.result (λ v. read t ≡ Some (meaning v))) text.0 c.kept_value.ensures.ok)
