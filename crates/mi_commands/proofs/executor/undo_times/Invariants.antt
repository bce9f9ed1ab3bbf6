use Rattle.std.proofs.Common.{◌≡◌, ◌≤◌}
use Rattle.mi_model.specs.Database.{depth, undone_times}
use Rattle.mi_commands.proofs.executor.undo_times.Given as goal

abbrev pub invariant-sessions : goal.invariant-sessions
invariant-sessions g l = record {
  within : l.left ≤ depth (g.D.Sessions.state l.database);
  state : undone_times l.left (g.D.Sessions.state l.database) ≡ undone_times l.count (g.D.Sessions.state l.fn.database);
}

abbrev pub decreases-sessions : goal.decreases-sessions
decreases-sessions g l = l.left
