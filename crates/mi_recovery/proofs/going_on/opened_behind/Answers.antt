-- What was asked was found, and is gone on with; what was held is undone.
use Rattle.std.proofs.Common.{◌∙◌}
use Rattle.std.specs.String.{string_bytes}
use Rattle.mi_log.specs.DeviceLog.{device_of}
use Rattle.mi_durable.specs.Durable.{hub_of, log_of}
use Rattle.mi_recovery.specs.Device.{told_of}
use Rattle.mi_recovery.proofs.SegmentLemmas.{asked_after, goes_by}
use Rattle.mi_recovery.proofs.going_on.opened_behind.Goals as goal

pub log_of_newest-requires-clause-found : goal.log_of_newest-requires-clause-found
log_of_newest-requires-clause-found g c =
    let asked = c.in_ok-asked.asked in
    let behind = c.in_ok-asked.ensures.asked in
    asked_after (g.P.File.Device.contents asked.file) (string_bytes asked.place.header) asked.place.skip asked.found behind.mid
    c.ask_journal.new.hub.held behind.newest

pub returns-clause-opened : goal.returns-clause-opened
returns-clause-opened g c =
    let contents = g.P.File.Device.contents in
    let asked = c.in_ok-asked.asked in record {
      asked = asked;
      mid = c.ask_journal.new.hub;
      behind = c.in_ok-asked.ensures.asked;
      goes = goes_by (contents asked.file) (string_bytes asked.place.header) asked.found c.args.keeping c.ask_journal.new.hub
          (hub_of c.in_ok-undone.field-0) (told_of contents (device_of c.in_ok-log.log)) (told_of contents (device_of (log_of c.in_ok-undone.field-0)))
          c.in_ok-log.ensures.has c.in_ok-undone.ensures.makes c.in_ok-undone.ensures.held;
      number = c.in_ok-undone.ensures.segment ∙ c.in_ok-log.ensures.segment;
    }
