use Rattle.mi_node.proofs.ColumnLemmas.{Lengthened}
use Rattle.mi_node.proofs.columns.lengthen.Given as goal

abbrev pub invariant-loop-slot : goal.invariant-loop-slot
invariant-loop-slot l = Lengthened l.places l.slot l.initial.columns.items l.columns.items
