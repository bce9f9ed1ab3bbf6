-- The segments in front of the newest one are asked, and then it.
use Rattle.std.proofs.Common.{◌≡◌, true, option_map}
use Rattle.std.specs.String.{string_bytes}
use Rattle.mi_recovery.proofs.SegmentLemmas.{asked_row}
use Rattle.mi_recovery.proofs.asking.ask_row.Goals as goal

pub returns-clause-asked : goal.returns-clause-asked
returns-clause-asked g c =
    asked_row (λ file. g.P.File.JournalFile.is_locked file ≡ true) (g.P.JournalFiles.is_seen c.args.files.now)
    (g.P.JournalFiles.is_newest c.args.files.now c.args.path.now) g.P.File.Device.contents c.args.path.now c.args.schema.now
    (option_map (λ p. p.now) c.args.position) c.in_ok-start.start c.in_ok-last.last c.in_ok-last.ensures.asked.0 c.args.newest.file
    (string_bytes c.args.newest.path) c.args.newest.number c.args.hub.now.held c.ask_segments.new.hub.held c.ask_newest.new.hub.held c.ask_newest.result
    c.in_ok-start.ensures c.in_ok-last.ensures.asked.1 c.in_ok-last.ensures.number c.requires.newest c.requires.locked c.requires.path
    c.ask_newest.ensures.place c.ask_newest.ensures.file c.ask_newest.ensures.seen c.ask_newest.ensures.text c.ask_newest.ensures.asked
