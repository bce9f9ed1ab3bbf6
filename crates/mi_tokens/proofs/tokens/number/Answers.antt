-- A whole number is a value.
use Rattle.std.proofs.Common.{arith}
use Rattle.std.proofs.lemmas.Int.{ints, to_z-of_z}
use Rattle.std.specs.Fmt.{signed_decimal}
use Rattle.mi_tokens.proofs.TokenLemmas.{number_begins}
use Rattle.mi_tokens.proofs.tokens.number.Goals as goal

pub returns : goal.returns
returns c =
    let found = number_begins c.args.lexemes.now c.number.new.self c.after_value.new.lexemes (signed_decimal c.in_ok-n.n) c.after_value.result c.in_ok-n.ensures c.after_value.ensures in
    grind (arith, ints, to_z-of_z, found)
