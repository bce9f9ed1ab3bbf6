use Rattle.std.proofs.Common.{◌≡◌, length, true}
use Rattle.std.specs.Io.KnownBytes.{Keeps}
use Rattle.mi_clients.specs.Output.{unsent, Sends}
use Rattle.mi_clients.proofs.sending.send_out.Given as goal

-- no byte is lost, and none is read; the stream hasn't failed meanwhile
abbrev pub invariant-out : goal.invariant-out
invariant-out g l = record {
  sends : Sends g.S.Duplex.contents l.fn.stream l.stream (unsent l.fn.output) (unsent l.output);
  remaining : Keeps (g.S.Duplex.remaining l.fn.stream) (g.S.Duplex.remaining l.stream);
  handle : g.S.Duplex.handle l.stream ≡ g.S.Duplex.handle l.fn.stream;
  reads : g.S.Duplex.reads l.stream ≡ g.S.Duplex.reads l.fn.stream;
  failed : g.S.Duplex.has_failed l.stream ≡ true → g.S.Duplex.has_failed l.fn.stream ≡ true;
}

abbrev pub decreases-out : goal.decreases-out
decreases-out g l = length (unsent l.output)
