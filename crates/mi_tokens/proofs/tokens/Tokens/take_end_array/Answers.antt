-- The end of an array stands where one may close.
use Rattle.std.proofs.Common.{◌≡◌, ◌∷◌, true, sym, ap, ◌∙◌, arith}
use Rattle.json.specs.Word.{head}
use Rattle.json.specs.Json.{after_end_array}
use Rattle.json.specs.Lex.{may_close}
use Rattle.mi_tokens.specs.Tokens.{place_of, tokens_at, end_token}
use Rattle.mi_tokens.proofs.tokens.Tokens.take_end_array.Goals as goal

pub returns : goal.returns
returns c =
    let a = c.self.inside in
    let may : may_close (place_of a.context) ≡ true = grind arith in
    let bracket : head a.lexemes ≡ 93 = grind arith in
    ap after_end_array (sym c.self.view_is ∙ c.close-self-inside.ensures (place_of a.context) may ∙ ap (λ x. end_token x ∷ tokens_at c.close-self-inside.result c.close-self-inside.new.lexemes) bracket)
