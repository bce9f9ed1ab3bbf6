use Rattle.std.proofs.Common.{◌≡◌, ◌≤◌, ℕ, List, length}
use Rattle.mi_hub.specs.Watching.{has_failed, Reads, Writes}
use Rattle.mi_hub.specs.Run.{piece, Done}
use Rattle.mi_hub.proofs.stream.serve_stream.Given as goal

-- all that was read so far is one piece that was done; each read gave a byte at least
abbrev pub invariant-reads : goal.invariant-reads
invariant-reads g l = record {
  bytes : List ℕ;
  out : List ℕ;
  read : Reads g.R.Read.remaining l.fn.reader l.reader bytes;
  written : Writes g.W.Write.contents l.fn.writer l.writer out;
  done : Done l.fn.hub (piece l.fn.conn bytes) out l.hub;
  least : l._turn ≤ length bytes;
  reader_sound : has_failed l.reader ≡ has_failed l.fn.reader;
  writer_sound : has_failed l.writer ≡ has_failed l.fn.writer;
}
