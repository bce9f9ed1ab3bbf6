-- A piece more is hashed.
use Rattle.std.proofs.Common.{arith}
use Rattle.mi_recovery.proofs.HashLemmas.{hash_more}
use Rattle.mi_recovery.proofs.text_hash.digest_of.Goals as goal

pub pieces-preserved : goal.pieces-preserved
pieces-preserved g c = record {
  hashed = hash_more (g.F.Device.contents c.args.file.now) c.pieces.at c.in_ok-count.count c.split_at.result.0.now c.read_piece.new.buffer c.pieces.hasher
      c.update.new.self c.pieces.invariant.hashed c.update.ensures c.split_at.ensures.front c.in_ok-count.ensures.bytes;
  within = omega (arith, c.in_ok-count.ensures.bound.2);
}
