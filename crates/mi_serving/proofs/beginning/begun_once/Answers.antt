-- The journal is opened where the tables stand.
use Rattle.std.proofs.Common.{◌≡◌, None, true}
use Rattle.mi_log.specs.DeviceLog.{device_of, segment_of}
use Rattle.mi_durable.specs.Durable.{hub_of, log_of}
use Rattle.mi_recovery.specs.Device.{told_of}
use Rattle.mi_serving.proofs.ServedLemmas.{begun_at, if_ok_then}
use Rattle.mi_serving.proofs.beginning.begun_once.Goals as goal

pub returns-clause-begins : goal.returns-clause-begins
returns-clause-begins g c =
    let contents = g.P.File.Device.contents in
    if_ok_then _ _ c.durable_of.result
    (λ durable begins. begun_at {G = g.row.P-File.Denot} (λ _. None) (λ file. g.P.File.JournalFile.is_locked file ≡ true) (g.P.JournalFiles.is_seen c.args.files.now)
    (g.P.JournalFiles.is_newest c.args.files.now) contents c.in_ok-copied.field-0 c.args.catalog.now c.args.schema.now c.in_ok-hub.position _ c.in_ok-hub.hub
    (hub_of durable) _ (told_of contents (device_of (log_of durable))) (segment_of (log_of durable)) c.in_ok-copied.ensures c.as_ref.ensures.value
    c.in_ok-hub.ensures begins) c.durable_of.ensures.begins
