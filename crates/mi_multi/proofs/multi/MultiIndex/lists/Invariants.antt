-- the lists so far are those of the indexes
use Rattle.std.proofs.Common.{◌≡◌, map, take}
use Rattle.mi_container.specs.Data.{as_table}
use Rattle.mi_multi.proofs.multi.MultiIndex.lists.Given as goal

abbrev pub invariant-loop-index : goal.invariant-loop-index
invariant-loop-index l = map (λ v. v.items) l.lists.items ≡ take l.index (as_table l.self.plain).lists
