-- What stands before the newline is the line's text.
use Rattle.mi_hub.proofs.OneLineLemmas.{line_before, never_empty}
use Rattle.mi_hub.proofs.line.whole_line.Goals as goal

pub returns-in-Some : goal.returns-in-Some
returns-in-Some c = line_before c.args.bytes.now _ _ _ c.requires c.in-Some.ensures.cases.0 c.ended_text.ensures

pub returns-in-None : goal.returns-in-None
returns-in-None c = never_empty c.args.bytes.now c.requires c.in-None.ensures.cases
