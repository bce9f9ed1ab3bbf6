-- The members stand behind the brace.
use Rattle.std.proofs.Common.{length, refl, ap, ◌∙◌, arith}
use Rattle.std.proofs.lemmas.Option.{IfSome_then}
use Rattle.json.specs.Json.{parse_map, members, value}
use Rattle.json.proofs.Grammar.{value-begin_object}
use Rattle.serde_json.specs.Data.{object}
use Rattle.serde_json.specs.Read.{of_json, converted}
use Rattle.mi_tokens.proofs.ReadingLemmas.{converted-object}
use Rattle.mi_tokens.proofs.pass.pass_object.Goals as goal

pub returns : goal.returns
returns c =
    let t = c.take_object.new.self in
    let opened = ap (converted of_json) (ap (value 126) (c.if-not-take_object.ensures refl) ∙ value-begin_object 126 t (omega arith))
    ∙ converted-object (members (value 125) (length t) t) in
    IfSome_then c.pass_members.result c.pass_members.ensures (λ ms found. opened ∙ ap (parse_map object) found)
