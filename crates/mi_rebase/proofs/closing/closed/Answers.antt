-- What a segment has stays.
use Rattle.std.specs.String.{string_bytes}
use Rattle.mi_log.specs.DeviceLog.{device_of}
use Rattle.mi_recovery.specs.Device.{told_of}
use Rattle.mi_recovery.specs.JournalFile.{text_of}
use Rattle.mi_recovery.specs.Recovery.{kept_bytes}
use Rattle.mi_rebase.proofs.RebaseLemmas.{has_kept}
use Rattle.mi_rebase.proofs.closing.closed.Goals as goal

pub returns : goal.returns
returns g c =
    let contents = g.P.File.Device.contents in
    has_kept (contents c.args.asked.file) (told_of contents (device_of c.in_ok-log.log)) (told_of contents (device_of c.sync.new.log))
    (λ bytes. kept_bytes (string_bytes c.args.asked.place.header) (text_of bytes) c.args.asked.found) c.in_ok-log.ensures.has c.sync.ensures.contents
