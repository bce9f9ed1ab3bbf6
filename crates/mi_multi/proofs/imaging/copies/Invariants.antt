-- the rows so far
use Rattle.std.proofs.Common.{◌≡◌, map, take}
use Rattle.mi_multi.proofs.imaging.copies.Given as goal

abbrev pub invariant-loop-id : goal.invariant-loop-id
invariant-loop-id l = l.rows.items ≡ map (λ r. (r.0, r.1.now)) (take l.id-index l.lent)
