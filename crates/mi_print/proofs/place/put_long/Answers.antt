-- What was put so far is the front of the text; the last sixteen bytes end it.
use Rattle.std.proofs.Common.{◌≡◌, ◌+◌, rules, arith, ap, length, take-add, length-take-le, take-append-drop}
use Rattle.std.proofs.lemmas.List.{take_rest}
use Rattle.json.proofs.Printed.Places.{Placed-then}
use Rattle.mi_print.proofs.place.put_long.Goals as goal

pub sixteens-preserved : goal.sixteens-preserved
sixteens-preserved c =
    let src = c.args.src.now in
    let done = c.sixteens.done in
    let both = Placed-then c.sixteens.invariant.1 (rw (take_rest src done) at c.put_first.ensures) in
    let whole = length-take-le (done + 16) src (search rules) in
    let end : c.put_first.result ≡ c.args.at + (done + 16) = omega (arith, both.moved, ap length (take-add done 16 src), whole) in
    (search rules, rw (take-add done 16 src, ← end) both)

pub returns : goal.returns
returns c =
    let src = c.args.src.now in
    let done = c.sixteens.done in
    rw (take-append-drop done src) at (Placed-then c.sixteens.invariant.1 (rw (take_rest src done) at c.put_ends.ensures))
