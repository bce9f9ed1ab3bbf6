-- the pass, as far as it has come; the node is held
use Rattle.mi_node.specs.Pool.{IsHeld}
use Rattle.mi_index.specs.Passes.{returning, returned}
use Rattle.mi_index.proofs.LoopLemmas.{Passing}
use Rattle.mi_index.proofs.all.relink_all.Given as goal

abbrev pub invariant-loop-slot : goal.invariant-loop-slot
invariant-loop-slot l =
    Passing (returning l.moves l.node) (returned l.moves l.node) l.node l.initial.structures l.initial.p l.slot l.structures l.p × IsHeld l.p l.node
