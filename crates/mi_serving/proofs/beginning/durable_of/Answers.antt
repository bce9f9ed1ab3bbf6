-- The journal that the words name was opened behind the position.
use Rattle.std.proofs.Common.{◌≡◌, ap, true, None, option_map}
use Rattle.mi_log.specs.DeviceLog.{device_of, segment_of}
use Rattle.mi_durable.specs.Durable.{hub_of, log_of}
use Rattle.mi_recovery.specs.Device.{told_of}
use Rattle.mi_serving.proofs.ServedLemmas.{begins_with}
use Rattle.mi_serving.proofs.beginning.durable_of.Goals as goal

pub returns-in_ok-opened_behind-in-Some-clause-begins : goal.returns-in_ok-opened_behind-in-Some-clause-begins
returns-in_ok-opened_behind-in-Some-clause-begins g c =
    let durable = c.in_ok-opened_behind-in-Some.field-0 in
    let contents = g.P.File.Device.contents in
    begins_with {G = g.row.P-File.Denot} (λ _. None) (λ file. g.P.File.JournalFile.is_locked file ≡ true) (g.P.JournalFiles.is_seen c.args.files.now)
    (g.P.JournalFiles.is_newest c.args.files.now) contents c.args.schema.now _ c.args.hub c.in-Some.words.now _ c.as_str.result.now c.keeping_by.result
    (hub_of durable) (told_of contents (device_of (log_of durable))) (segment_of (log_of durable)) (ap (option_map (λ words. words.now)) c.in-Some.is) c.as_str.ensures.value
    c.keeping_by.ensures c.in_ok-opened_behind-in-Some.ensures.opened
