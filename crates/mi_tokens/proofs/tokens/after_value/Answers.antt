-- A comma behind a value is passed, and a value or a key must follow.
use Rattle.std.proofs.Common.{◌≡◌, ap, arith}
use Rattle.json.specs.Word.{head}
use Rattle.json.specs.Lex.{class}
use Rattle.mi_tokens.proofs.TokenLemmas.{after_comma_token}
use Rattle.mi_tokens.proofs.tokens.after_value.Goals as goal

pub pass_spaced-requires : goal.pass_spaced-requires
pass_spaced-requires c = let e : head c.args.lexemes.now ≡ 44 = omega (arith, c.peek.ensures) in ap class e

pub returns-then-peek-eq44 : goal.returns-then-peek-eq44
returns-then-peek-eq44 c =
    after_comma_token c.args.lexemes.now c.pass_spaced.new.self (omega (arith, c.peek.ensures)) c.pass_spaced.ensures
