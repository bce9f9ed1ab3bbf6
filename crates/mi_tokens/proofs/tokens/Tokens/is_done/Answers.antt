-- Where a value has ended and the text too, no token is left.
use Rattle.std.proofs.Common.{◌≡◌, [], true, sym, ◌∙◌, arith}
use Rattle.json.specs.Lex.{may_close}
use Rattle.mi_tokens.specs.Tokens.{place_of}
use Rattle.mi_tokens.proofs.TokenLemmas.{all_passed}
use Rattle.mi_tokens.proofs.tokens.Tokens.is_done.Goals as goal

pub returns-then-may_close : goal.returns-then-may_close
returns-then-may_close c is =
    let a = c.self.inside in
    let may : may_close (place_of a.context) ≡ true = grind arith in
    let empty : a.lexemes ≡ [] = grind arith in
    sym c.self.view_is ∙ all_passed a.context a.lexemes may empty
