use Rattle.std.proofs.Common.{◌≡◌, ◌-◌, ◌≤◌, length, take}
use Rattle.mi_hub.specs.Watching.{has_failed, Writes}
use Rattle.mi_program.proofs.report.send.Given as goal

-- the front up to `at` is written
abbrev pub invariant-bytes : goal.invariant-bytes
invariant-bytes g l = record {
  within : l.at ≤ length l.bytes;
  written : Writes g.W.Write.contents l.fn.stream l.stream (take l.at l.bytes);
  sound : has_failed l.stream ≡ has_failed l.fn.stream;
}

abbrev pub decreases-bytes : goal.decreases-bytes
decreases-bytes g l = length l.bytes - l.at
