-- the pass, as far as it has come
use Rattle.mi_index.specs.Passes.{leaving, left}
use Rattle.mi_index.proofs.LoopLemmas.{Passing}
use Rattle.mi_index.proofs.all.unlink_all.Given as goal

abbrev pub invariant-loop-slot : goal.invariant-loop-slot
invariant-loop-slot l = Passing (leaving l.moves l.node) (left l.moves l.node) l.node l.initial.structures l.initial.p l.slot l.structures l.p
