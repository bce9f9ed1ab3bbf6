-- The bracket or the brace is one lexeme, and the comma behind it is passed.
use Rattle.std.proofs.Common.{ap, inl, inr}
use Rattle.json.specs.Lex.{class}
use Rattle.mi_tokens.proofs.TokenLemmas.{closed}
use Rattle.mi_tokens.proofs.tokens.close.Goals as goal

pub pass-requires : goal.pass-requires
pass-requires c = elim c.requires [ inl e ↦ ap class e | inr e ↦ ap class e ]

pub returns : goal.returns
returns c =
    closed c.args.lexemes.now c.pass.new.self c.after_value.new.lexemes c.after_value.result c.requires c.pass.ensures c.after_value.ensures
