-- The bracket is one lexeme.
use Rattle.std.proofs.Common.{◌≡◌, true, sym, ◌∙◌, arith}
use Rattle.json.specs.Token.{begin_array}
use Rattle.json.specs.Word.{head}
use Rattle.json.specs.Lex.{may_begin}
use Rattle.mi_tokens.specs.Tokens.{place_of}
use Rattle.mi_tokens.proofs.TokenLemmas.{bracket_begins}
use Rattle.mi_tokens.proofs.tokens.Tokens.take_array.Goals as goal

pub returns : goal.returns
returns c =
    let a = c.self.inside in
    let may : may_begin (place_of a.context) ≡ true = grind arith in
    let opens : head a.lexemes ≡ 91 = sym c.peek.ensures ∙ c.if-peek-ne91.false in
    λ _. sym c.self.view_is ∙ bracket_begins a.lexemes c.pass.new.self begin_array opens c.pass.ensures (place_of a.context) may
