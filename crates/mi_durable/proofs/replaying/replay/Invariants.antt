use Rattle.std.proofs.Common.{◌≡◌, ◌≤◌, ◌-◌, ◌^◌, Some, []}
use Rattle.mi_hub.specs.Connections.{rest_at}
use Rattle.mi_log.specs.LogLines.{reader_of}
use Rattle.mi_replay.specs.Replayed.{replayer}
use Rattle.mi_durable.specs.Replay.{Onward, HasPassed}
use Rattle.mi_durable.proofs.replaying.replay.Given as goal

-- what is left to ask leaves what all leaves, and so many lines were read
abbrev pub invariant-lines : goal.invariant-lines
invariant-lines g l = record {
  attached : l.hub.attached ≡ l.fn.hub.attached;
  still : rest_at replayer l.hub.attached ≡ Some (Some []);
  so_far : Onward (g.R.Read.remaining (reader_of l.fn.lines)) (g.R.Read.remaining (reader_of l.lines)) l.fn.hub.held l.hub.held;
  first : 2 ≤ l.number;
  passed : HasPassed (l.number - 2) (g.R.Read.remaining (reader_of l.fn.lines)) (g.R.Read.remaining (reader_of l.lines));
}

abbrev pub decreases-lines : goal.decreases-lines
decreases-lines g l = 2 ^ 64 - l.number
