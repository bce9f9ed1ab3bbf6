-- The first N bytes of a text and its last N are all of it, where it has N to 2 N.
use Rattle.std.proofs.Common.{◌≡◌, ◌+◌, ◌-◌, arith, rules, length}
use Rattle.std.proofs.lemmas.List.{take_rest}
use Rattle.json.proofs.Printed.Places.{Placed-ends}
use Rattle.mi_print.proofs.place.put_ends.Goals as goal

pub returns : goal.returns
returns g c =
    let src = c.args.src.now in
    let behind : (c.args.at + length src) - g.row.N ≡ c.args.at + (length src - g.row.N) = omega (arith, c.requires.covers.0) in
    Placed-ends src g.row.N (search rules) c.requires.covers.0 c.requires.covers.1 c.put_first.ensures
    (rw (take_rest src (length src - g.row.N), behind) at c.put_first-2.ensures)
