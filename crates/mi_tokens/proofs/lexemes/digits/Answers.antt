-- One digit more is ten times the number and the digit, below the next power of ten.
use Rattle.std.proofs.Common.{◌≡◌, ◌+◌, ◌-◌, ◌^◌, ◌<◌, get_or, sym, ◌∙◌, arith}
use Rattle.std.proofs.lemmas.List.{drop_more}
use Rattle.mi_tokens.proofs.WholeLemmas.{no_more, below_next, digit_passed}
use Rattle.mi_tokens.proofs.lexemes.digits.Goals as goal

pub overflow_mul-n : goal.overflow_mul-n
overflow_mul-n c =
    let most : c.digits.n < 10 ^ 17 = no_more (c.digits.at - c.args.from) 17 c.digits.n (omega arith) c.digits.invariant.4 in
    record { fits = omega (arith, most) }

pub overflow_add-n : goal.overflow_add-n
overflow_add-n c =
    let most : c.digits.n < 10 ^ 17 = no_more (c.digits.at - c.args.from) 17 c.digits.n (omega arith) c.digits.invariant.4 in
    let byte = get_or c.args.text.now c.digits.at 0 in
    let there = digit_passed c.args.text.now c.digits.at c.digits.n byte (drop_more c.args.text.now c.digits.at 0 (grind arith)) (grind arith) in
    record { fits = omega (arith, most, there.few) }

pub digits-preserved : goal.digits-preserved
digits-preserved c =
    let l = c.digits in let d = c.args.text.now in let byte = get_or d l.at 0 in
    let there = digit_passed d l.at l.n byte (drop_more d l.at 0 (grind arith)) (grind arith) in
    let next : l.at + 1 - c.args.from ≡ l.at - c.args.from + 1 = omega arith in (
      omega (arith, there.shorter),
      grind arith,
      omega arith,
      omega arith,
      rw next (below_next (l.at - c.args.from) l.n (byte - 48) l.invariant.4 there.few),
      sym there.longer ∙ l.invariant.5,
    )
