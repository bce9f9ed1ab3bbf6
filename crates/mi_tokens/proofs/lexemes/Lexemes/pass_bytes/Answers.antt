-- The bytes stand in front of what is left.
use Rattle.std.proofs.Common.{◌≡◌, ◌-◌, ◌++◌, length, take, drop, take_all, length-drop, sym, ap, ap₂, ◌∙◌, arith}
use Rattle.std.proofs.lemmas.List.{drop-drop, take-append-drop}
use Rattle.mi_tokens.proofs.lexemes.Lexemes.pass_bytes.Goals as goal

pub returns : goal.returns
returns g c =
    let a = c.self.inside in
    let d = a.text.now in
    let w = c.args.front.now in
    let n = g.row.N in
    let bytes = c.as_bytes.result.now in
    let rest = take (length bytes - a.at) (drop a.at bytes) in
    let whole : rest ≡ drop a.at bytes = take_all _ (drop a.at bytes) (omega (arith, length-drop a.at bytes)) in
    let same : c.in-Some.first.now ≡ w = c.are_same.ensures.0 c.if-not-are_same.false in
    let first : take n (drop a.at d) ≡ w = rw (← c.as_bytes.ensures.value) (ap (take n) (sym whole) ∙ sym c.in-Some.ensures.cases.0 ∙ same) in
    sym c.self.view_is ∙ sym (take-append-drop n (drop a.at d)) ∙ ap₂ (λ s t. s ++ t) first (drop-drop n a.at d)
