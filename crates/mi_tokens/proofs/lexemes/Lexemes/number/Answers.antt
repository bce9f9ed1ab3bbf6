-- A minus and digits in front of the end of a value are a number, which is written in decimal.
use Rattle.std.proofs.Common.{◌≡◌, ◌∷◌, ◌-◌, Some, true, take, drop, refl, sym, ap, ◌∙◌, arith}
use Rattle.std.proofs.lemmas.Int.{ints, to_z-of_z}
use Rattle.std.specs.Fmt.{signed_decimal}
use Rattle.json.specs.Token.{number}
use Rattle.json.specs.Word.{head, after_minus, after_whole}
use Rattle.json.specs.Lex.{token, between, lex}
use Rattle.mi_tokens.specs.Ends.{is_end}
use Rattle.mi_tokens.proofs.LexemeLemmas.{number_read, lex_number_at}
use Rattle.mi_tokens.proofs.lexemes.Lexemes.number.Goals as goal

pub returns : goal.returns
returns c =
    let a = c.self.inside in
    let d = a.text.now in
    let n = c.in_ok-n.n in
    let stop = c.in_ok-n.end in
    let same = c.as_bytes-bytes.ensures.value in
    let read : after_whole (after_minus (drop a.at d)) ≡ Some (drop stop d) = rw (← same) c.in_ok-n.ensures.end in
    let text : take (stop - a.at) (drop a.at d) ≡ signed_decimal n = rw (← same) c.in_ok-n.ensures.value in
    let byte : c.byte_at.result ≡ head (drop stop d) = rw (← same) c.byte_at.ensures.head in
    let ends : is_end (head (drop stop d)) ≡ true = ap is_end (sym byte) ∙ grind arith in
    let found =
    ap (lex between) (sym c.self.view_is)
    ∙ lex_number_at d a.at stop c.in_ok-n.ensures.bounds.0 (number_read (drop a.at d) _ (drop stop d) refl read ends) ends
    ∙ ap (λ s. token (number s) ∷ lex between (drop stop d)) text in
    grind (arith, ints, to_z-of_z, found)
