-- What went out and what waits still are together the bytes that were written.
use Rattle.std.proofs.Common.{◌≡◌, ◌-◌, ◌∙◌, ap, drop, length, length-drop, arith}
use Rattle.mi_program.proofs.BufferLemmas.{front_goes}
use Rattle.mi_program.proofs.buffered.Buffered.send_out.Goals as goal

pub out-preserved : goal.out-preserved
out-preserved g c =
    let gathered = c.out.self.gathered.items in
    let left = c.split_at.ensures.back ∙ ap (drop c.out.self.sent) c.as_slice.ensures.value in
    let len : length c.split_at.result.1.now ≡ length gathered - c.out.self.sent = ap length left ∙ length-drop c.out.self.sent gathered in record {
      within = omega (arith, len, c.in_ok-taken.ensures.bound, c.out.invariant.within);
      kept = front_goes _ _ _ gathered c.split_at.result.1.now c.out.self.sent c.in_ok-taken.taken left c.out.invariant.kept c.in_ok-taken.ensures.bytes;
    }
