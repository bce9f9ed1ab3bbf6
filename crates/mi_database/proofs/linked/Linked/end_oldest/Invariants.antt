-- but for the oldest session all that is meant stays
use Rattle.std.proofs.Common.{length}
use Rattle.mi_database.specs.Journal.{entries}
use Rattle.mi_database.proofs.LoopLemmas.{Settling}
use Rattle.mi_database.proofs.linked.Linked.end_oldest.Given as goal

abbrev pub invariant-loop : goal.invariant-loop
invariant-loop g l = Settling l.initial.self l.self

abbrev pub decreases-loop : goal.decreases-loop
decreases-loop g l = length (entries l.self.journal)
