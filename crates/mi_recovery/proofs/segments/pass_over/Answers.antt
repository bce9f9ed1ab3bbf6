-- One line more was read.
use Rattle.std.proofs.Common.{◌+◌, arith}
use Rattle.mi_log.specs.LogLines.{reader_of}
use Rattle.mi_recovery.proofs.SegmentLemmas.{passed_more}
use Rattle.mi_recovery.proofs.segments.pass_over.Goals as goal

pub lines-preserved : goal.lines-preserved
lines-preserved g c =
    let at = g.R.Read.remaining in record {
      passed = passed_more c.lines.passed (c.lines.passed + 1) (at (reader_of c.args.lines.now)) (at (reader_of c.lines.lines))
          (at (reader_of c.next_line.new.lines)) (omega arith) c.lines.invariant.passed c.in_ok-next_line.ensures.passed;
      within = omega arith;
    }
