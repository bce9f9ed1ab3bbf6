-- There is room for no node at first.
use Rattle.mi_index.proofs.RoomLemmas.{none_all}
use Rattle.mi_index.proofs.structures.Structures.new.Goals as goal

pub invariant_of-result : goal.invariant_of-result
invariant_of-result c = none_all _
