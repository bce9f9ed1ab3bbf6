-- A text and a colon are a key.
use Rattle.std.proofs.Common.{◌≡◌, ap, arith}
use Rattle.json.specs.Word.{head}
use Rattle.json.specs.Lex.{class}
use Rattle.mi_tokens.proofs.TokenLemmas.{named}
use Rattle.mi_tokens.proofs.tokens.key.Goals as goal

pub pass_spaced-requires : goal.pass_spaced-requires
pass_spaced-requires c = let e : head c.string.new.self ≡ 58 = omega (arith, c.peek.ensures) in ap class e

pub returns : goal.returns
returns c =
    named c.args.lexemes.now c.string.new.self c.pass_spaced.new.self c.in_ok-name.name.now c.in_ok-name.ensures (omega (arith, c.peek.ensures)) c.pass_spaced.ensures
