-- It is begun with the header of the place behind the log's segment.
use Rattle.std.proofs.Common.{◌≡◌, ◌+◌, true}
use Rattle.std.specs.Prelude.{IfSome}
use Rattle.std.specs.String.{string_bytes}
use Rattle.mi_log.specs.DeviceLog.{device_of}
use Rattle.mi_recovery.specs.Device.{told_of}
use Rattle.mi_recovery.specs.JournalFile.{text_of}
use Rattle.mi_recovery.specs.Segments.{IsBegunWith, hash_of, segment_header_of}
use Rattle.mi_recovery.proofs.RollingLemmas.{header_next, ok_at}
use Rattle.mi_recovery.proofs.rolling.next_log.Goals as goal

pub returns-clause-begins : goal.returns-clause-begins
returns-clause-begins g c =
    let contents = g.P.File.Device.contents in
    let told = told_of contents (device_of c.args.log.now) in
    let schema = c.args.rolling.now.schema.now in
    ok_at (λ place. IfSome told (λ bytes. string_bytes place.header
    ≡ segment_header_of (hash_of (text_of bytes)) schema.revision (string_bytes schema.hash) (c.args.number + 1)))
    (λ place next. IsBegunWith (λ file. g.P.File.JournalFile.is_locked file ≡ true) contents c.args.rolling.now.keeping (string_bytes place.header)
    (told_of contents (device_of next))) c.begun_apart-begun.result c.in_ok-place.place
    (header_next told schema c.args.number c.in_ok-place.place c.in_ok-place.ensures.number c.in_ok-place.ensures.next) c.begun_apart-begun.ensures.begins
