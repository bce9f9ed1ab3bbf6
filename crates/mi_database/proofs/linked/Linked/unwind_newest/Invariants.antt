-- what is left of the newest session takes back what all of it does
use Rattle.std.proofs.Common.{length}
use Rattle.mi_database.specs.LinkedData.{newest_of}
use Rattle.mi_database.proofs.LoopLemmas.{Unwinding}
use Rattle.mi_database.proofs.linked.Linked.unwind_newest.Given as goal

abbrev pub invariant-loop : goal.invariant-loop
invariant-loop g l = Unwinding l.initial.self l.self

abbrev pub decreases-loop : goal.decreases-loop
decreases-loop g l = length (newest_of l.self.journal)
