-- Digits that begin with another than a zero, or one alone, are what their number writes.
use Rattle.std.proofs.Common.{◌≡◌, ◌^◌, ◌<◌, ◌≤◌, ℕ, List, Some, None, get_or, length, drop, option_map, ap, sym, ◌∙◌, arith, rules}
use Rattle.std.proofs.lemmas.List.{take_rest}
use Rattle.std.specs.Str.Parse.{digits_value}
use Rattle.mi_request.proofs.WordLemmas.{many_digits, no_digit, zero_leads, large_digits, digits_are, run}
use Rattle.mi_request.proofs.words.whole_at.Goals as goal
use Rattle.mi_request.proofs.words.whole_at.Goals.{then-end-eq0-via-then-end-eq0, then-end-eq0-via-else-end-eq0+then-n}
use Rattle.mi_request.proofs.words.whole_at.Goals.{else-end-gt1-via-then-end-gt1+else-text-eq48, else-end-gt1-via-else-end-gt1}

pub returns-in_err-n : goal.returns-in_err-n
returns-in_err-n c =
    let none = many_digits c.args.text.now (c.digits_of.ensures.many c.in_err-n.was) in
    let nothing : c.from_residual.result ≡ None = search rules in
    ap (option_map {U = ℕ × List ℕ} (λ p. (p.0, p.1.now))) nothing ∙ sym none

pub returns-then-end-eq0 : goal.returns-then-end-eq0
returns-then-end-eq0 c =
    let t = c.args.text.now in
    elim c.then-end-eq0.branch [
      | then-end-eq0-via-then-end-eq0 w ↦ sym (no_digit t (sym c.in_ok-n.ensures.count ∙ w.if-end-eq0.true))
      | then-end-eq0-via-else-end-eq0+then-n w ↦
          let value = c.in_ok-n.ensures.value ∙ ap (λ k. digits_value 10 (Rattle.std.proofs.Common.take k t)) c.in_ok-n.ensures.count in
          sym (large_digits t (omega (arith, value, w.if-n.true)))
    ]

pub returns-then-text-eq48 : goal.returns-then-text-eq48
returns-then-text-eq48 c =
    sym (zero_leads c.args.text.now (omega (arith, c.in_ok-n.ensures.count, c.if-end-gt1.true)) c.if-text-eq48.true)

pub returns : goal.returns
returns c =
    let t = c.args.text.now in
    let count = c.in_ok-n.ensures.count in
    let value = c.in_ok-n.ensures.value ∙ ap (λ k. digits_value 10 (Rattle.std.proofs.Common.take k t)) count in
    let leads : 1 < run t → get_or t 0 0 ≡ 48 → ⊥ = λ more zero.
    elim c.else-end-gt1.branch [
      | else-end-gt1-via-then-end-gt1+else-text-eq48 w ↦ w.if-text-eq48.false zero
      | else-end-gt1-via-else-end-gt1 w ↦ omega (arith, more, count, w.if-end-gt1.false)
    ] in
    let is = digits_are t c.in_ok-n.n (omega (arith, count, c.if-end-eq0.false)) leads value (omega (arith, c.if-n.false)) in
    ap (λ l. Some (c.in_ok-n.n, l)) (take_rest t c.in_ok-n.end ∙ ap (λ k. drop k t) count) ∙ sym is
