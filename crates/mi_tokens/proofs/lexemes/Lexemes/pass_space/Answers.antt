-- A space is no lexeme.
use Rattle.std.proofs.Common.{◌≡◌, drop, sym, ap, ◌∙◌, arith}
use Rattle.std.proofs.lemmas.List.{drop-drop}
use Rattle.json.specs.Word.{head}
use Rattle.json.specs.Lex.{between, lex}
use Rattle.mi_tokens.proofs.LexemeLemmas.{lex_space}
use Rattle.mi_tokens.proofs.lexemes.Lexemes.pass_space.Goals as goal

pub returns-then-self : goal.returns-then-self
returns-then-self c =
    let a = c.self.inside in
    let space : head (drop a.at a.text.now) ≡ 32 = ap head c.self.view_is ∙ grind arith in
    ap (lex between) (sym (drop-drop 1 a.at a.text.now)) ∙ lex_space (drop a.at a.text.now) space ∙ ap (lex between) c.self.view_is
