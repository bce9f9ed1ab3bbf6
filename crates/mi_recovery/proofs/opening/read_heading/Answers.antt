-- Where no newline was found all that there is, is a beginning of the header.
use Rattle.std.proofs.Common.{Ok, ap, subst}
use Rattle.mi_log.specs.LogLines.{reader_of, line_of}
use Rattle.mi_recovery.specs.Recovery.{IsBeginning}
use Rattle.mi_recovery.proofs.OpeningLemmas.{heading_none}
use Rattle.mi_recovery.proofs.opening.read_heading.Goals as goal

pub returns-then-is_beginning-clause-none : goal.returns-then-is_beginning-clause-none
returns-then-is_beginning-clause-none g c = λ is.
    heading_none (g.R.Read.remaining (reader_of c.args.lines.now)) (g.R.Read.remaining (reader_of c.advance.new.self)) (line_of c.advance.new.self)
    c.args.header.now c.in-Ok-false.ensures.none_lost (c.in-Ok-false.ensures.end (ap Ok c.in-Ok-false.field-0-test))
    (subst (IsBeginning c.args.header.now) c.line-in-Ok-false.ensures (c.is_beginning.ensures c.if-is_beginning.true))
