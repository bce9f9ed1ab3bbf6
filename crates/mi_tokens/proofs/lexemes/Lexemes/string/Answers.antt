-- Plain bytes up to a quotation mark are the text itself.
use Rattle.std.proofs.Common.{◌≡◌, ◌+◌, ◌∷◌, drop, sym, ap, ◌∙◌, arith}
use Rattle.std.proofs.lemmas.Str.{IsCharBoundary-after_ascii}
use Rattle.std.specs.List.{prefix_len}
use Rattle.json.specs.Token.{string}
use Rattle.json.specs.Word.{head}
use Rattle.json.specs.Lex.{token, between, lex}
use Rattle.json.specs.Run.{is_plain}
use Rattle.mi_tokens.proofs.LexemeLemmas.{byte_there, lex_string}
use Rattle.mi_tokens.proofs.lexemes.Lexemes.string.Goals as goal

pub range-requires-clause-start_boundary : goal.range-requires-clause-start_boundary
range-requires-clause-start_boundary c some =
    let a = c.self.inside in
    let d = a.text.now in
    let first = byte_there d a.at 34 (ap head c.self.view_is ∙ c.requires) (λ e. omega arith) in
    IsCharBoundary-after_ascii d a.at c.self.invariant.0 first.within (omega (arith, first.byte))

pub returns : goal.returns
returns c =
    let a = c.self.inside in
    let d = a.text.now in
    let stop = c.plain_end-stop.result in
    let first_byte : head (drop a.at d) ≡ 34 = ap head c.self.view_is ∙ c.requires in
    let is : stop ≡ a.at + 1 + prefix_len is_plain (drop (a.at + 1) d) = rw (← c.as_bytes.ensures.value) c.plain_end-stop.ensures.value in
    let close : head (drop stop d) ≡ 34 = omega (arith, c.byte_at.ensures.head, ap (λ t. head (drop stop t)) c.as_bytes-2.ensures.value) in
    ap (lex between) (sym c.self.view_is) ∙ lex_string d a.at stop first_byte is close
    ∙ ap (λ s. token (string s) ∷ lex between (drop (stop + 1) d)) (sym c.range.ensures.value)
