-- Each token that is a value by itself is the value of the grammar.
use Rattle.std.proofs.Common.{◌≡◌, ◌∷◌, Some, option_map, FitsSigned, w64, sym, ap, ◌∙◌, rules}
use Rattle.std.proofs.lemmas.Int.{to_z-of_z}
use Rattle.json.specs.Json.{value}
use Rattle.json.proofs.Grammar.{value_is}
use Rattle.serde_json.specs.Data.{null, boolean, number, string}
use Rattle.serde_json.specs.Find.{of_integer}
use Rattle.serde_json.specs.Read.{of_json, converted}
use Rattle.mi_tokens.specs.Meaning.{meaning}
use Rattle.mi_tokens.specs.Tokens.{token_of}
use Rattle.mi_tokens.specs.declared.value.Json.{Text, Whole, Bool, Null, the_lemmas}
use Rattle.mi_tokens.proofs.WholeLemmas.{number_read}
use Rattle.mi_tokens.proofs.pass.plain.Goals as goal

pub returns-in-Text : goal.returns-in-Text
returns-in-Text c depth ts =
    let means : meaning (Text c.in-Text.text) ≡ string c.in-Text.text.now = search (rules, the_lemmas) in
    ap (λ k. converted of_json (value depth (token_of k ∷ ts))) c.in-Text.is ∙ ap (converted of_json) (value_is depth _) ∙ ap (λ d. Some (d, ts)) (sym means)

pub returns-in-Bool : goal.returns-in-Bool
returns-in-Bool c depth ts =
    let means : meaning (Bool c.in-Bool.b) ≡ boolean c.in-Bool.b = search (rules, the_lemmas) in
    ap (λ k. converted of_json (value depth (token_of k ∷ ts))) c.in-Bool.is ∙ ap (converted of_json) (value_is depth _) ∙ ap (λ d. Some (d, ts)) (sym means)

pub returns-in-Null : goal.returns-in-Null
returns-in-Null c depth ts =
    let means : meaning (Null) ≡ null = search (rules, the_lemmas) in
    ap (λ k. converted of_json (value depth (token_of k ∷ ts))) c.in-Null.is ∙ ap (converted of_json) (value_is depth _) ∙ ap (λ d. Some (d, ts)) (sym means)

pub returns-in-Whole : goal.returns-in-Whole
returns-in-Whole c depth ts =
    let n = c.in-Whole.n in
    let fits : FitsSigned w64 n = search rules in
    let means : meaning (Whole n) ≡ number (of_integer n) = search (rules, the_lemmas) in
    ap (λ k. converted of_json (value depth (token_of k ∷ ts))) c.in-Whole.is ∙ ap (converted of_json) (value_is depth _) ∙ ap (λ o. option_map (λ d. (d, ts)) (option_map number o)) (number_read n fits)
    ∙ ap (λ d. Some (d, ts)) (sym means ∙ ap (λ z. meaning (Whole z)) (sym (to_z-of_z w64 n fits)))
