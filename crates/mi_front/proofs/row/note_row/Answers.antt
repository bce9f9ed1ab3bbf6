-- The segments in front of the newest one are noted, and then it.
use Rattle.std.proofs.Common.{◌≡◌, ◌∙◌, true, option_map, subst, sym}
use Rattle.std.specs.String.{string_bytes}
use Rattle.mi_recovery.specs.Segments.{AsksUpTo}
use Rattle.mi_front.proofs.NotedLemmas.{notes_then}
use Rattle.mi_front.proofs.ClosedLemmas.{up_to_asked}
use Rattle.mi_front.proofs.FrontLemmas.{row_noted}
use Rattle.mi_front.proofs.row.note_row.Goals as goal

pub returns-clause-noted : goal.returns-clause-noted
returns-clause-noted g c =
    let older = c.in_ok-row.ensures.noted in
    let own = c.in_ok-asked.ensures.noted in
    let seen = g.P.JournalFiles.is_seen c.args.files.now in
    let contents = g.P.File.Device.contents in
    let asks = subst (λ h. AsksUpTo seen contents c.args.path.now c.args.schema.now older.0 older.2 c.in_ok-row.row.next c.args.hub.now.held h)
    (sym older.4.leaves) (up_to_asked seen contents c.args.path.now c.args.schema.now older.0 older.2 c.in_ok-row.row.next older.1 c.args.hub.now.held older.5) in (
      older.1,
      own.0,
      notes_then c.args.hub.now.held c.note_closed.new.hub.held c.note_newest.new.hub.held c.args.starts.now c.note_closed.new.starts
          c.note_newest.new.starts older.1 own.0 older.4 own.1,
      c.lines-older.ensures ∙ older.4.count,
      row_noted (λ file. g.P.File.JournalFile.is_locked file ≡ true) seen (g.P.JournalFiles.is_newest c.args.files.now c.args.path.now) contents
          c.args.path.now c.args.schema.now (option_map (λ p. p.now) c.args.position) older.0 c.in_ok-row.row.next older.2 c.args.newest.file
          (string_bytes c.args.newest.path) c.args.newest.number older.1 own.0 c.args.hub.now.held c.note_closed.new.hub.held c.note_newest.new.hub.held
          c.in_ok-asked.asked older.3 asks c.in_ok-row.ensures.number c.requires.newest c.requires.locked c.requires.path c.in_ok-asked.ensures.place
          c.in_ok-asked.ensures.file c.in_ok-asked.ensures.seen c.in_ok-asked.ensures.text older.4.leaves own.1.leaves own.2,
    )
