-- the undos that are left take back what all do
use Rattle.std.proofs.Common.{◌≡◌, ◌-◌}
use Rattle.mi_model.specs.Database.{undone_times}
use Rattle.mi_plain.proofs.plain.PlainSessions.undo_all.Given as goal

abbrev pub invariant-loop : goal.invariant-loop
invariant-loop l = undone_times (l.open - l.counter) l.self ≡ undone_times l.open l.initial.self
