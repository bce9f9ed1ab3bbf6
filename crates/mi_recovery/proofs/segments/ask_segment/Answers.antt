-- Its text is asked, and its sum stands in the header behind it.
use Rattle.mi_recovery.proofs.SegmentLemmas.{next_asked}
use Rattle.mi_recovery.proofs.segments.ask_segment.Goals as goal

pub returns-clause-asked : goal.returns-clause-asked
returns-clause-asked g c =
    next_asked (g.P.JournalFiles.is_seen c.args.files.now) g.P.File.Device.contents c.args.path.now c.args.schema.now c.args.place.now c.in_ok-file.file
    c.next_place.result c.args.hub.now.held c.ask_whole.new.hub.held c.in_ok-file.ensures c.in_ok-ask_whole.ensures.asked c.next_place.ensures.next
