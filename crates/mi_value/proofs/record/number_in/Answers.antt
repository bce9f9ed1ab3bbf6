-- Eight bytes behind a number's tag are the number.
use Rattle.std.proofs.Common.{length, ap, arith, FitsSigned, rules}
use Rattle.std.specs.Int.{w64}
use Rattle.std.proofs.lemmas.Int.{to_z-of_z}
use Rattle.mi_value.proofs.NumberLemmas.{left_long, number_there}
use Rattle.mi_value.proofs.record.number_in.Goals as goal

pub overflow_sub-place : goal.overflow_sub-place
overflow_sub-place c =
    omega (arith, left_long c.args.column c.args.bytes.now c.in_ok-left.left.now c.in_ok-left.ensures, ap length c.in_ok-tag.ensures.cases.0)

pub returns : goal.returns
returns c =
    let fits : FitsSigned w64 c.in_ok-value.value = search rules in
    rw (to_z-of_z w64 c.in_ok-value.value fits)
    (number_there c.args.bytes.now c.in_ok-left.left.now c.in_ok-tag.content.now c.in_ok-value.field-0-1.now c.args.column c.in_ok-tag.tag.now _ c.in_ok-value.value
    c.in_ok-left.ensures c.in_ok-tag.ensures.cases.0 (search rules) c.in_ok-value.ensures
    (omega (arith, left_long c.args.column c.args.bytes.now c.in_ok-left.left.now c.in_ok-left.ensures, ap length c.in_ok-tag.ensures.cases.0)))
