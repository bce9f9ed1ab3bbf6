-- One line more was given and noted.
use Rattle.std.proofs.Common.{◌∷◌, ◌++◌, [], Ok, ◌∙◌, refl, ap}
use Rattle.mi_log.specs.LogLines.{reader_of}
use Rattle.mi_front.proofs.GivenLemmas.{given_none, given_then}
use Rattle.mi_front.proofs.NotedLemmas.{notes_none, notes_then}
use Rattle.mi_front.proofs.noting.note_lines.Goals as goal

pub lines-init : goal.lines-init
lines-init g c = record {
  attached = refl;
  asked = [];
  given = given_none (g.R.Read.remaining (reader_of c.args.lines.now));
  notes = notes_none c.args.hub.now.held c.args.starts.now;
}

pub lines-preserved : goal.lines-preserved
lines-preserved g c =
    let before = c.lines.invariant in
    let at = g.R.Read.remaining in
    let more = c.in_ok-note_next.ensures.more (ap Ok c.if-not-branch.false) in record {
      attached = c.in_ok-note_next.ensures.attached ∙ before.attached;
      asked = before.asked ++ more.0 ∷ [];
      given = given_then before.asked (more.0 ∷ []) (at (reader_of c.args.lines.now)) (at (reader_of c.lines.lines)) (at (reader_of c.note_next.new.lines))
          before.given more.1;
      notes = notes_then c.args.hub.now.held c.lines.hub.held c.note_next.new.hub.held c.args.starts.now c.lines.starts c.note_next.new.starts
          before.asked (more.0 ∷ []) before.notes more.2;
    }
