-- Its text is asked and noted, and its sum stands in the header behind it.
use Rattle.mi_front.proofs.FrontLemmas.{next_noted}
use Rattle.mi_front.proofs.row.note_segment.Goals as goal

pub returns-clause-noted : goal.returns-clause-noted
returns-clause-noted g c =
    let noted = c.in_ok-note_whole.ensures.noted in
    next_noted (g.P.JournalFiles.is_seen c.args.files.now) g.P.File.Device.contents c.args.path.now c.args.schema.now c.args.place.now c.in_ok-file.file
    c.next_place.result noted.0 c.args.hub.now.held c.note_whole.new.hub.held c.args.starts.now c.note_whole.new.starts c.in_ok-file.ensures noted.1 noted.2
    c.next_place.ensures.next
