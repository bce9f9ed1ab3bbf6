-- the pass, as far as it has come
use Rattle.mi_index.specs.Passes.{joining, joined}
use Rattle.mi_index.proofs.LoopLemmas.{Passing}
use Rattle.mi_index.proofs.all.link_all.Given as goal

abbrev pub invariant-loop-slot : goal.invariant-loop-slot
invariant-loop-slot l = Passing (joining l.it.moves l.it.node l.it.stamp l.it.before) (joined l.it.moves l.it.node l.it.stamp l.it.before) l.it.node l.initial.structures l.initial.p l.slot l.structures l.p
