-- the pass, as far as it has come
use Rattle.mi_index.specs.Inserting.{relocating_at, relocated_at}
use Rattle.mi_index.proofs.LoopLemmas.{Passing}
use Rattle.mi_index.proofs.all.relocate_all.Given as goal

abbrev pub invariant-loop-slot : goal.invariant-loop-slot
invariant-loop-slot l = Passing (relocating_at l.index l.node l.before) (relocated_at l.index l.node l.before) l.node l.initial.structures l.initial.p l.slot l.structures l.p
