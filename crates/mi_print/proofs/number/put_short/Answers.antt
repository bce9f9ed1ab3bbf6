-- A number of 100 or more is its hundreds, of one digit or two, and a pair.
use Rattle.std.proofs.Common.{◌≡◌, ◌%◌, ◌-◌, ◌*◌, arith}
use Rattle.std.proofs.lemmas.Fmt.{decimal_digit}
use Rattle.json.proofs.Printed.Places.{Placed-then}
use Rattle.itoa.proofs.Decimal.{decimal_pair, decimal_two}
use Rattle.mi_print.proofs.number.put_short.Goals as goal

pub returns-then-n-lt1000-clause-value : goal.returns-then-n-lt1000-clause-value
returns-then-n-lt1000-clause-value c =
    let high = c.hundreds-high.ensures in
    let last : c.args.n % 100 ≡ c.args.n - 100 * c.hundreds-high.result = omega (arith, high) in
    rw (decimal_pair c.args.n c.if-n-lt100.false (omega arith), ← high, decimal_digit c.hundreds-high.result (omega (arith, high)), last)
    (Placed-then c.put_byte-end.ensures c.put_pair.ensures)

pub returns-clause-value : goal.returns-clause-value
returns-clause-value c =
    let high = c.hundreds-high.ensures in
    let last : c.args.n % 100 ≡ c.args.n - 100 * c.hundreds-high.result = omega (arith, high) in
    rw (decimal_pair c.args.n c.if-n-lt100.false (omega arith), ← high, decimal_two c.hundreds-high.result (omega (arith, high)) (omega (arith, high)), last)
    (Placed-then c.put_pair-end.ensures c.put_pair-2.ensures)
