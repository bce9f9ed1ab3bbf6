-- A whole number is a value.
use Rattle.std.proofs.Common.{◌≡◌, true, sym, ◌∙◌, arith}
use Rattle.std.proofs.lemmas.Int.{ints, to_z-of_z}
use Rattle.std.specs.Fmt.{signed_decimal}
use Rattle.json.specs.Lex.{may_begin}
use Rattle.mi_tokens.specs.Tokens.{place_of}
use Rattle.mi_tokens.proofs.TokenLemmas.{number_begins}
use Rattle.mi_tokens.proofs.tokens.Tokens.take_whole.Goals as goal

pub returns : goal.returns
returns c =
    let a = c.self.inside in
    let may : may_begin (place_of a.context) ≡ true = grind arith in
    let after = c.after_value-self-inside in
    let found = sym c.self.view_is
    ∙ number_begins a.lexemes c.number.new.self after.new.lexemes (signed_decimal c.in_ok-n.n) after.result c.in_ok-n.ensures after.ensures (place_of a.context) may in
    grind (arith, ints, to_z-of_z, found)
