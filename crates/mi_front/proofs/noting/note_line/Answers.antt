-- The line is one that is asked and taken, and what is told behind it is how many sessions are open there, and the revision.
use Rattle.std.proofs.Common.{ap, ◌∙◌}
use Rattle.mi_model.specs.Database.{Database, depth}
use Rattle.mi_replay.specs.Replayed.{replayed}
use Rattle.mi_checkpoint.proofs.TakenLemmas.{whole_lines_are_taken}
use Rattle.mi_front.proofs.NotedLemmas.{notes_one}
use Rattle.mi_front.proofs.noting.note_line.Goals as goal

pub returns-in-Ok-clause-noted : goal.returns-in-Ok-clause-noted
returns-in-Ok-clause-noted g c =
    let old = c.args.hub.now in
    let new = c.replay_line.new.hub in
    let said = c.in_ok-replay_line.ensures.taken in
    let one = whole_lines_are_taken c.args.line.now said.0 said.1 c.args.hub.now c.replay_line.new.hub said.2 said.3 in (
      one.0,
      one.1,
      notes_one c.args.hub.now.held c.replay_line.new.hub.held c.args.starts.now c.note.new.self one.0 c.depth.result c.revision.result
          (c.in_ok-replay_line.ensures.ok ∙ ap (λ ls. replayed ls c.args.hub.now.held) one.1) one.2
          (c.depth.ensures ∙ ap depth c.database-database.ensures) (c.revision.ensures ∙ ap (λ (d : Database). d.revision) c.database-database.ensures)
          c.in-Ok.ensures.lines c.in-Ok.ensures.told,
    )
