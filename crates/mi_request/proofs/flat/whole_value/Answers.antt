-- The number is the value.
use Rattle.std.proofs.Common.{◌≡◌, ◌∷◌, Some, arith, option_map, FitsSigned, w64, sym, ap, ◌∙◌, rules}
use Rattle.std.proofs.lemmas.Int.{ints, to_z-of_z}
use Rattle.std.specs.Fmt.{signed_decimal}
use Rattle.json.specs.Json.{value}
use Rattle.json.specs.Token.{Token}
use Rattle.json.proofs.Grammar.{value_is}
use Rattle.serde_json.specs.Data.{number}
use Rattle.serde_json.specs.Find.{of_integer}
use Rattle.serde_json.specs.Read.{of_json, converted}
use Rattle.mi_tokens.specs.Meaning.{meaning}
use Rattle.mi_tokens.specs.declared.value.Json.{Whole, the_lemmas}
use Rattle.mi_tokens.proofs.WholeLemmas.{number_read}
use Rattle.mi_request.proofs.FlatLemmas.{natural_found}
use Rattle.mi_request.proofs.flat.whole_value.Goals as goal

pub returns : goal.returns
returns c =
    let n = c.in_ok-take_whole.field-0 in
    let ts = c.take_whole.new.self in
    let fits : FitsSigned w64 n = search rules in
    let means : meaning (Whole n) ≡ number (of_integer n) = search (rules, the_lemmas) in
    let first : c.args.tokens.now ≡ Token.number (signed_decimal n) ∷ ts = grind (arith, ints, to_z-of_z, c.in_ok-take_whole.ensures) in
    let read = ap (converted of_json) (ap (value 126) first ∙ value_is 126 _) ∙ ap (λ o. option_map (λ d. (d, ts)) (option_map number o)) (number_read n fits)
    ∙ ap (λ d. Some (d, ts)) (sym means ∙ ap (λ z. meaning (Whole z)) (sym (to_z-of_z w64 n fits))) in
    natural_found c.natural_of.result _ c.args.tokens.now ts read c.natural_of.ensures
