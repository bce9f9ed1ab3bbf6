-- Structures of the same slots and keys have as much room.
use Rattle.std.proofs.Common.{arith}
use Rattle.mi_index.proofs.InsertLemmas.{roomy_lent}
use Rattle.mi_index.proofs.structures.Structures.relocate.Goals as goal

pub invariant_of-self : goal.invariant_of-self
invariant_of-self c =
    roomy_lent c.self.inside.items _ c.relocate_all.new.structures c.self.inside.room (omega arith) c.as_mut_slice.ensures.value c.relocate_all.ensures.like c.self.invariant
