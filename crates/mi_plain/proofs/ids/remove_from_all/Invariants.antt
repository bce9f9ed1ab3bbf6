-- the lists so far are without e, the others as they were
use Rattle.std.proofs.Common.{◌≡◌, ◌++◌, map, take, drop}
use Rattle.mi_model.specs.Change.{without}
use Rattle.mi_plain.proofs.ids.remove_from_all.Given as goal

abbrev pub invariant-loop-ids : goal.invariant-loop-ids
invariant-loop-ids l = l.lists ≡ map (without l.e) (take l.ids-index l.initial.lists) ++ drop l.ids-index l.initial.lists
