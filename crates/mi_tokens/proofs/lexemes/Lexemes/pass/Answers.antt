-- A mark is one byte of the text.
use Rattle.std.proofs.Common.{◌∷◌, drop, sym, ap, ◌∙◌}
use Rattle.std.proofs.lemmas.List.{drop-drop}
use Rattle.json.specs.Word.{head}
use Rattle.json.specs.Lex.{operator_lexeme, between, lex}
use Rattle.mi_tokens.proofs.LexemeLemmas.{lex_mark}
use Rattle.mi_tokens.proofs.lexemes.Lexemes.pass.Goals as goal

pub returns : goal.returns
returns c =
    let a = c.self.inside in
    lex_mark c.args.self.now c.requires
    ∙ ap (λ u. operator_lexeme (head c.args.self.now) ∷ lex between u) (ap (drop 1) (sym c.self.view_is) ∙ drop-drop 1 a.at a.text.now)
