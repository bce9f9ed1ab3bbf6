-- The token of the value that begins.
use Rattle.std.proofs.Common.{◌≡◌, true, sym, ◌∙◌, arith}
use Rattle.json.specs.Lex.{may_begin}
use Rattle.mi_tokens.specs.Tokens.{place_of}
use Rattle.mi_tokens.proofs.tokens.Tokens.next.Goals as goal

pub returns : goal.returns
returns c =
    let a = c.self.inside in
    let may : may_begin (place_of a.context) ≡ true = grind arith in
    sym c.self.view_is ∙ c.in_ok-token.ensures (place_of a.context) may
