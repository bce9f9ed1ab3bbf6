-- What the digits so far write is less than a one with as many zeros, so nineteen fit; a twentieth is one too many.
use Rattle.std.proofs.Common.{◌^◌, ◌<◌, ◌-◌, get_or, sym, ◌∙◌, arith}
use Rattle.std.proofs.lemmas.List.Sums.{prefix_len-drop_yes}
use Rattle.std.specs.Char.{is_ascii_digit}
use Rattle.mi_tokens.proofs.WholeLemmas.{no_more}
use Rattle.mi_request.proofs.WordLemmas.{digit_more, more_than}
use Rattle.mi_request.proofs.words.digits_of.Goals as goal

pub returns-then-at-eq-MOST_DIGITS-clause-many : goal.returns-then-at-eq-MOST_DIGITS-clause-many
returns-then-at-eq-MOST_DIGITS-clause-many c none =
    let t = c.args.text.now in
    let l = c.digits in
    let more = prefix_len-drop_yes is_ascii_digit t l.at 0 c.digits-test.true (sym c.is_ascii_digit.ensures.value ∙ c.if-is_ascii_digit.true) in
    omega (arith, l.invariant.0, more, c.if-at-eq-MOST_DIGITS.true)

pub overflow_mul-n : goal.overflow_mul-n
overflow_mul-n c =
    let most : c.digits.n < 10 ^ 18 = no_more c.digits.at 18 c.digits.n (omega arith) c.digits.invariant.3 in
    record { fits = omega (arith, most) }

pub overflow_add-n : goal.overflow_add-n
overflow_add-n c =
    let most : c.digits.n < 10 ^ 18 = no_more c.digits.at 18 c.digits.n (omega arith) c.digits.invariant.3 in
    let digit = c.if-is_ascii_digit.ensures.cases in
    record { fits = omega (arith, most, digit.1) }

pub digits-preserved : goal.digits-preserved
digits-preserved c =
    let t = c.args.text.now in
    let l = c.digits in
    let more = prefix_len-drop_yes is_ascii_digit t l.at 0 c.digits-test.true (sym c.is_ascii_digit.ensures.value ∙ c.if-is_ascii_digit.true) in
    let digit = c.if-is_ascii_digit.ensures.cases in (
      omega (arith, l.invariant.0, more),
      omega (arith, c.digits-test.true),
      omega (arith, l.invariant.2, c.if-at-eq-MOST_DIGITS.false),
      more_than l.n l.at (get_or t l.at 0 - 48) l.invariant.3 (omega (arith, digit.1)),
      digit_more t l.at l.n c.digits-test.true digit.0 digit.1 l.invariant.4,
    )
