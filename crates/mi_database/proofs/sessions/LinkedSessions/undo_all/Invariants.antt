-- the undos that are left take back what all do
use Rattle.std.proofs.Common.{◌-◌}
use Rattle.mi_database.proofs.EndLemmas.{Undoing}
use Rattle.mi_database.proofs.sessions.LinkedSessions.undo_all.Given as goal

abbrev pub invariant-loop : goal.invariant-loop
invariant-loop g l = Undoing (l.open - l.counter) l.open l.initial.self l.self
