-- what is left of the key, and the room for it
use Rattle.mi_database.proofs.KeyLemmas.{Erasing}
use Rattle.mi_database.proofs.sessions.LinkedSessions.erase_key.Given as goal

abbrev pub invariant-loop : goal.invariant-loop
invariant-loop g l = Erasing l.table l.index l.key l.rows l.counter l.initial.self l.self
