-- What was read with a newline is a whole line.
use Rattle.std.proofs.Common.{◌∙◌, sym}
use Rattle.mi_log.specs.LogLines.{reader_of, line_of}
use Rattle.mi_recovery.proofs.SegmentLemmas.{passed_one, whole_by}
use Rattle.mi_recovery.proofs.segments.next_line.Goals as goal

pub returns-in-Ok-true-clause-passed : goal.returns-in-Ok-true-clause-passed
returns-in-Ok-true-clause-passed g c =
    passed_one (g.R.Read.remaining (reader_of c.args.lines.now)) (g.R.Read.remaining (reader_of c.advance.new.self)) (line_of c.advance.new.self)
    c.in-Ok-true.ensures.none_lost
    (whole_by (line_of c.advance.new.self) (sym c.in-Ok-true.ensures.found ∙ c.in-Ok-true.field-0-test) c.in-Ok-true.ensures.one)
