use Rattle.std.proofs.Common.{◌≡◌, ℕ, List, length}
use Rattle.mi_hub.specs.Watching.{has_failed, Writes}
use Rattle.mi_hub.proofs.ServedLemmas.{SoFar}
use Rattle.mi_hub.proofs.serve.serve_piece.Given as goal

abbrev pub invariant-lines : goal.invariant-lines
invariant-lines g l = record {
  out : List ℕ;
  written : Writes g.W.Write.contents l.fn.writer l.writer out;
  so_far : SoFar (g.S.Answering.gives l.fn.conn) l.fn.served out l.served l.rest l.fn.rest l.left l.fn.piece;
  sound : has_failed l.writer ≡ has_failed l.fn.writer;
}

abbrev pub decreases-lines : goal.decreases-lines
decreases-lines g l = length l.left
