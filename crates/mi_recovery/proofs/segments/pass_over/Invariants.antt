use Rattle.std.proofs.Common.{◌≤◌, ◌-◌}
use Rattle.mi_log.specs.LogLines.{reader_of}
use Rattle.mi_durable.specs.Replay.{HasPassed}
use Rattle.mi_recovery.proofs.segments.pass_over.Given as goal

-- so many lines were passed over
abbrev pub invariant-lines : goal.invariant-lines
invariant-lines g l = record {
  passed : HasPassed l.passed (g.R.Read.remaining (reader_of l.fn.lines)) (g.R.Read.remaining (reader_of l.lines));
  within : l.passed ≤ l.count;
}

abbrev pub decreases-lines : goal.decreases-lines
decreases-lines g l = l.count - l.passed
