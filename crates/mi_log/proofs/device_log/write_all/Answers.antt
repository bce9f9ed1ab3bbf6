-- What was written is a front of the bytes, and what is left is the rest of them.
use Rattle.std.proofs.Common.{arith, ◌∙◌}
use Rattle.std.proofs.Math.Seq.{take-add}
use Rattle.std.proofs.KnownBytes.{Appends-trans, Keeps-trans}
use Rattle.mi_log.proofs.device_log.write_all.Goals as goal

pub bytes-preserved : goal.bytes-preserved
bytes-preserved g c = record {
  within = omega (arith, c.in_ok-n.ensures.bound);
  written = rw (take-add, ← c.split_at.ensures.back) (Appends-trans _ _ _ _ _ c.bytes.invariant.written c.in_ok-n.ensures.bytes);
  stays = Keeps-trans _ _ _ c.bytes.invariant.stays c.in_ok-n.ensures.stays;
  makes_stay = c.in_ok-n.ensures.makes_stay ∙ c.bytes.invariant.makes_stay;
  room = c.in_ok-n.ensures.room ∙ c.bytes.invariant.room;
  left = omega (arith, c.in_ok-n.ensures.left, c.bytes.invariant.left);
}
