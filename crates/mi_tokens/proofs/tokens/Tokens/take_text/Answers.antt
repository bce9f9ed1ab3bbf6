-- A text in front of the end of a value is a value.
use Rattle.std.proofs.Common.{◌≡◌, true, sym, ap, ◌∙◌, arith}
use Rattle.json.specs.Word.{head}
use Rattle.json.specs.Lex.{may_begin}
use Rattle.mi_tokens.specs.Ends.{is_end}
use Rattle.mi_tokens.specs.Tokens.{place_of}
use Rattle.mi_tokens.proofs.TokenLemmas.{text_begins}
use Rattle.mi_tokens.proofs.tokens.Tokens.take_text.Goals as goal

pub returns : goal.returns
returns c =
    let a = c.self.inside in
    let may : may_begin (place_of a.context) ≡ true = grind arith in
    let ends : is_end (head c.string.new.self) ≡ true = ap is_end (sym c.peek-2.ensures) ∙ grind arith in
    let after = c.after_value-self-inside in
    sym c.self.view_is
    ∙ text_begins a.lexemes c.string.new.self after.new.lexemes c.in_ok-text.text.now after.result c.in_ok-text.ensures ends after.ensures (place_of a.context) may
