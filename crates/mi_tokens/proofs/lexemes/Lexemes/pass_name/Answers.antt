-- The front is the name's text, and a space behind it is none of the lexemes.
use Rattle.std.proofs.Common.{◌∷◌, ◌++◌, [], refl, sym, ap, ◌∙◌, append_assoc}
use Rattle.json.specs.Token.{string}
use Rattle.json.specs.Lex.{token, colon, between, lex}
use Rattle.mi_tokens.proofs.LexemeLemmas.{lex_text, lex_mark}
use Rattle.mi_tokens.proofs.lexemes.Lexemes.pass_name.Goals as goal

pub returns : goal.returns
returns g c s is plain =
    let u = c.pass_bytes.new.self in
    ap (lex between) (c.if-not-pass_bytes.ensures ∙ ap (λ f. f ++ u) is ∙ ap (λ l. 34 ∷ l) (append_assoc s (34 ∷ (58 ∷ [])) u))
    ∙ lex_text s (58 ∷ u) plain ∙ ap (λ l. token (string s) ∷ l) (lex_mark (58 ∷ u) refl)
    ∙ ap (λ l. token (string s) ∷ colon ∷ l) (sym c.pass_space.ensures)
