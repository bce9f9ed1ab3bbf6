-- the ids so far have their stamps
use Rattle.std.proofs.Common.{◌≡◌, map, take}
use Rattle.mi_container.specs.Data.{stamp_of}
use Rattle.mi_multi.proofs.multi.MultiIndex.stamped_ids.Given as goal

abbrev pub invariant-loop-id : goal.invariant-loop-id
invariant-loop-id l = l.pairs.items ≡ map (λ e. (stamp_of l.self.plain.rows l.index e, e)) (take l.id-index l.ids)
