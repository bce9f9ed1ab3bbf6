-- Sixteen bytes are stored; of them the first count.
use Rattle.std.proofs.Common.{arith, length-take-le, take-take, ◌≤◌}
use Rattle.mi_print.proofs.PlaceLemmas.{Placed-front}
use Rattle.mi_print.proofs.place.put_label.Goals as goal

pub returns : goal.returns
returns g c =
    let src = c.args.src.now in
    let few : c.args.len ≤ 16 = omega (arith, c.if-len-gt16.false) in
    let long = length-take-le 16 src (omega (arith, c.requires.within, c.told-src)) in
    rw (← take-take c.args.len 16 src few)
    (Placed-front c.args.len (omega (arith, c.requires.fits)) (omega (arith, long, few)) c.put_first.ensures)
