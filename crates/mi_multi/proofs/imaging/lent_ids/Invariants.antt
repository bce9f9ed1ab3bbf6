-- the ids so far
use Rattle.std.proofs.Common.{◌≡◌, map, take}
use Rattle.mi_multi.proofs.imaging.lent_ids.Given as goal

abbrev pub invariant-loop-id : goal.invariant-loop-id
invariant-loop-id l = l.ids.items ≡ map (λ r. r.0) (take l.id-index l.lent)
