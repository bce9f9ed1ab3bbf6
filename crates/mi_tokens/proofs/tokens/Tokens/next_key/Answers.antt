-- A key stands where a value may begin, the end of an object where one may close.
use Rattle.std.proofs.Common.{◌≡◌, ◌∷◌, true, sym, ap, ◌∙◌, arith}
use Rattle.json.specs.Word.{head}
use Rattle.json.specs.Json.{read_key}
use Rattle.json.specs.Lex.{may_begin, may_close}
use Rattle.mi_tokens.specs.Tokens.{place_of, tokens_at, end_token}
use Rattle.mi_tokens.proofs.tokens.Tokens.next_key.Goals as goal

pub returns-then-may_begin : goal.returns-then-may_begin
returns-then-may_begin c =
    let a = c.self.inside in
    let may : may_begin (place_of a.context) ≡ true = grind arith in
    ap read_key (sym c.self.view_is ∙ c.in_ok-name.ensures (place_of a.context) may)

pub returns-then-may_close : goal.returns-then-may_close
returns-then-may_close c =
    let a = c.self.inside in
    let may : may_close (place_of a.context) ≡ true = grind arith in
    let brace : head a.lexemes ≡ 125 = grind arith in
    ap read_key (sym c.self.view_is ∙ c.close-self-inside.ensures (place_of a.context) may ∙ ap (λ x. end_token x ∷ tokens_at c.close-self-inside.result c.close-self-inside.new.lexemes) brace)
