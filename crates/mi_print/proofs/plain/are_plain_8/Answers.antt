-- No lane is a byte that needs an escape.
use Rattle.std.proofs.Common.{arith, take_all}
use Rattle.json.proofs.Printed.Plain.{plain_from_lanes}
use Rattle.mi_print.proofs.PlainLemmas.{all_fit}
use Rattle.mi_print.proofs.plain.are_plain_8.Goals as goal

pub returns : goal.returns
returns c =
    let lanes = c.args.bytes in
    let long = c.fits-bytes.0 in
    rw (take_all 8 lanes (omega (arith, long))) at (plain_from_lanes lanes 0 8 (omega (arith, long)) (omega arith) (all_fit lanes c.fits-bytes.1))
