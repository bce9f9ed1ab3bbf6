-- so many of the oldest sessions have ended
use Rattle.mi_database.proofs.EndLemmas.{Ending}
use Rattle.mi_database.proofs.sessions.LinkedSessions.commit.Given as goal

abbrev pub invariant-loop : goal.invariant-loop
invariant-loop g l = Ending l.counter l.initial.self l.self
