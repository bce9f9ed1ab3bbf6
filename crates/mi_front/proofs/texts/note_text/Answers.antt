-- A beginning of the header has no line.
use Rattle.std.proofs.Common.{[], Ok, ap, subst}
use Rattle.std.specs.Prelude.{IfSome}
use Rattle.mi_recovery.specs.Recovery.{IsBeginning}
use Rattle.mi_front.proofs.NotedLemmas.{notes_none}
use Rattle.mi_front.proofs.TextLemmas.{no_lines}
use Rattle.mi_front.proofs.texts.note_text.Goals as goal

pub returns-then-not-branch-clause-noted : goal.returns-then-not-branch-clause-noted
returns-then-not-branch-clause-noted g c = (
  [],
  notes_none c.args.hub.now.held c.args.starts.now,
  no_lines (g.R.Read.remaining c.args.reader) c.args.header.now c.args.skip
      (subst (λ r. IfSome (g.R.Read.remaining r) (IsBeginning c.args.header.now)) c.new-lines.ensures.reader
      (c.in_ok-read_heading.ensures.none (ap Ok c.if-not-branch.true))),
)
