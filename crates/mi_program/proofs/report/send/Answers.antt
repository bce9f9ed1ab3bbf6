-- What was written is a front of the bytes, and what is left is the rest of them.
use Rattle.std.proofs.Common.{arith, ◌∙◌}
use Rattle.std.proofs.Math.Seq.{take-add}
use Rattle.std.proofs.KnownBytes.{Appends-trans}
use Rattle.mi_hub.proofs.WriteLemmas.{still_sound}
use Rattle.mi_program.proofs.report.send.Goals as goal

pub bytes-preserved : goal.bytes-preserved
bytes-preserved g c = record {
  within = omega (arith, c.in-Ok.ensures.bound);
  written = rw (take-add, ← c.split_at.ensures.back) (Appends-trans _ _ _ _ _ c.bytes.invariant.written c.in-Ok.ensures.bytes);
  sound = c.in-Ok.ensures.failed ∙ still_sound _ _ c.in-Ok.n c.if-n-gt0.true ∙ c.bytes.invariant.sound;
}
