-- The bracket or the brace is one lexeme.
use Rattle.mi_tokens.specs.Tokens.{token_of}
use Rattle.mi_tokens.proofs.TokenLemmas.{bracket_begins, opens_mark}
use Rattle.mi_tokens.proofs.tokens.open.Goals as goal

pub pass-requires : goal.pass-requires
pass-requires c = opens_mark c.args.lexemes.now (token_of c.args.token) c.requires

pub returns : goal.returns
returns c = bracket_begins c.args.lexemes.now c.pass.new.self (token_of c.args.token) c.requires c.pass.ensures
