-- A zero stands alone, and other digits are the decimal of what they write.
use Rattle.std.proofs.Common.{◌≡◌, ◌+◌, ◌-◌, ◌==◌, false, decimal, drop, sym, ap, ◌∙◌, arith}
use Rattle.json.specs.Word.{head}
use Rattle.mi_tokens.proofs.WholeLemmas.{IsWritten, digits_written, zero_written}
use Rattle.mi_tokens.proofs.lexemes.whole.Goals as goal

pub returns-then-byte_at-eq48-clause-value : goal.returns-then-byte_at-eq48-clause-value
returns-then-byte_at-eq48-clause-value c =
    let one : c.args.from + 1 - c.args.from ≡ 1 = omega arith in
    rw one (zero_written c.args.text.now c.args.from (omega arith)).0

written : (c : goal.Else-end-from) → IsWritten (drop c.args.from c.args.text.now) (c.in_ok-n.end - c.args.from)
written c =
    let other : (head (drop c.args.from c.args.text.now) == 48) ≡ false = grind arith in
    let long = c.in_ok-n.ensures.bounds in
    digits_written (drop c.args.from c.args.text.now) (c.in_ok-n.end - c.args.from) other (omega arith) (grind arith) (omega arith)

pub returns-else-end-from-clause-value : goal.returns-else-end-from-clause-value
returns-else-end-from-clause-value c = let w = written c in w.text ∙ ap decimal (sym c.in_ok-n.ensures.value)

pub returns-else-end-from-clause-bounds : goal.returns-else-end-from-clause-bounds
returns-else-end-from-clause-bounds c =
    let w = written c in
    (omega arith, c.in_ok-n.ensures.bounds.0, omega (arith, w.small, c.in_ok-n.ensures.value))
