use Rattle.std.proofs.Common.{◌-◌, ◌≤◌, length}
use Rattle.std.specs.Io.KnownBytes.{Keeps}
use Rattle.mi_program.specs.Buffer.{contents_of}
use Rattle.mi_program.proofs.buffered.Buffered.send_out.Given as goal

-- no byte is lost
abbrev pub invariant-out : goal.invariant-out
invariant-out g l = record {
  within : l.self.sent ≤ length l.self.gathered.items;
  kept : Keeps (contents_of g.S.Write.contents l.fn.self) (contents_of g.S.Write.contents l.self);
}

abbrev pub decreases-out : goal.decreases-out
decreases-out g l = length l.self.gathered.items - l.self.sent
