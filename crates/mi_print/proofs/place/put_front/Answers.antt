-- The whole array is stored; of it the first bytes count.
use Rattle.std.proofs.Common.{◌≡◌, ◌+◌, ◌-◌, ap, sym, arith, length, take, subst, ◌∙◌}
use borrow.Rule.Slice.PartMut.{put_mid}
use Rattle.json.specs.Filled.{Placed}
use Rattle.json.proofs.Printed.Places.{Placed-put_mid}
use Rattle.mi_print.proofs.place.put_front.Goals as goal

pub returns : goal.returns
returns g c =
    let at = c.args.at in
    let width : (at + g.row.N) - at ≡ g.row.N = omega arith in
    let new = c.copy_from_slice.new.self in
    let same : new ≡ c.args.src.now = c.copy_from_slice.ensures.after in
    let long : length new ≡ (at + g.row.N) - at = ap length same ∙ c.told-src ∙ sym width in
    subst (λ xs. Placed c.args.buf.now (put_mid at ((at + g.row.N) - at) c.args.buf.now new) at (take c.args.len xs) (at + c.args.len)) same
    (Placed-put_mid c.args.buf.now new at ((at + g.row.N) - at) c.args.len (omega (arith, c.requires.fits)) long (omega (arith, c.requires.within)))
