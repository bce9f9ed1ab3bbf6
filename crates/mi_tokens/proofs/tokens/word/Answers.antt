-- The word of true, false or null is a value.
use Rattle.std.proofs.Common.{rules}
use Rattle.mi_tokens.specs.Tokens.{token_of}
use Rattle.mi_tokens.proofs.TokenLemmas.{word_begins}
use Rattle.mi_tokens.proofs.tokens.word.Goals as goal

pub returns : goal.returns
returns g c =
    let passed = c.pass_word.ensures (search rules) in
    word_begins c.args.lexemes.now c.pass_word.new.self c.after_value.new.lexemes c.args.text.now (token_of c.args.token) c.after_value.result c.requires passed.0 passed.1 c.after_value.ensures
