-- Two pairs, one behind the other.
use Rattle.std.proofs.Common.{◌≡◌, ◌%◌, ◌-◌, ◌*◌, arith}
use Rattle.json.proofs.Printed.Places.{Placed-then}
use Rattle.mi_print.proofs.number.put_four.Goals as goal

pub returns : goal.returns
returns c =
    let high = c.hundreds-high.ensures in
    let last : c.args.n % 100 ≡ c.args.n - 100 * c.hundreds-high.result = omega (arith, high) in
    rw (← high, last) (Placed-then c.put_pair-end.ensures c.put_pair.ensures)
