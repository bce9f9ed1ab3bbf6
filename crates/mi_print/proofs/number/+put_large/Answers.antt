-- The last four digits stand behind those before them; no number of 64 bits has more than twenty.
use Rattle.std.proofs.Common.{arith}
use Rattle.json.proofs.Printed.Places.{Placed-then}
use Rattle.itoa.proofs.Decimal.{decimal_four, length_four}
use Rattle.mi_print.proofs.DigitLemmas.{twenty}
use Rattle.mi_print.proofs.number.+put_large.Goals as goal

pub returns-then-high-lt10000-clause-value : goal.returns-then-high-lt10000-clause-value
returns-then-high-lt10000-clause-value t c =
    rw (decimal_four c.args.n c.requires.0 (omega (arith, c.ranges.n.fits))) (Placed-then c.put_short-begun.ensures.value c.put_four.ensures)

pub put_four-requires-2 : goal.put_four-requires-2
put_four-requires-2 t c =
    let last = length_four c.args.n c.requires.0 (omega (arith, c.ranges.n.fits)) in
    let most = twenty c.args.n (omega (arith, c.ranges.n.fits)) in
    (omega arith, omega (arith, last, most, c.put_large-begun.ensures.value.moved, c.put_large-begun.ensures.value.len, c.requires))

pub returns-clause-value : goal.returns-clause-value
returns-clause-value t c =
    rw (decimal_four c.args.n c.requires.0 (omega (arith, c.ranges.n.fits))) (Placed-then c.put_large-begun.ensures.value c.put_four-2.ensures)

pub returns-clause-bound : goal.returns-clause-bound
returns-clause-bound t c =
    let last = length_four c.args.n c.requires.0 (omega (arith, c.ranges.n.fits)) in
    let most = twenty c.args.n (omega (arith, c.ranges.n.fits)) in
    omega (arith, last, most, c.put_large-begun.ensures.value.moved, c.put_four-2.ensures.moved)
