-- A text in front of the end of a value is a value.
use Rattle.std.proofs.Common.{◌≡◌, true, sym, ap, ◌∙◌, arith}
use Rattle.json.specs.Word.{head}
use Rattle.mi_tokens.specs.Ends.{is_end}
use Rattle.mi_tokens.proofs.TokenLemmas.{text_begins}
use Rattle.mi_tokens.proofs.tokens.string.Goals as goal

pub returns : goal.returns
returns c =
    let ends : is_end (head c.string.new.self) ≡ true = ap is_end (sym c.peek.ensures) ∙ grind arith in
    text_begins c.args.lexemes.now c.string.new.self c.after_value.new.lexemes c.in_ok-text.text.now c.after_value.result c.in_ok-text.ensures ends c.after_value.ensures
