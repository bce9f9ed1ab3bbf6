-- What is kept of the newest segment is in front of the next.
use Rattle.std.specs.String.{string_bytes}
use Rattle.mi_log.specs.DeviceLog.{device_of}
use Rattle.mi_recovery.specs.Device.{told_of}
use Rattle.mi_recovery.specs.JournalFile.{text_of}
use Rattle.mi_recovery.specs.Recovery.{kept_bytes}
use Rattle.mi_rebase.proofs.RebaseLemmas.{closes_by}
use Rattle.mi_rebase.proofs.rebasing.stand_of.Goals as goal

pub returns-clause-closes : goal.returns-clause-closes
returns-clause-closes g c =
    let contents = g.P.File.Device.contents in
    let asked = c.args.front.asked in
    closes_by (contents asked.file) (told_of contents (device_of c.in_ok-newest.newest))
    (λ bytes. kept_bytes (string_bytes asked.place.header) (text_of bytes) asked.found) c.args.schema.now asked.place c.in_ok-next.next
    c.in_ok-newest.ensures c.in_ok-next.ensures.next
