-- What began was served.
use Rattle.std.proofs.Common.{◌≡◌, None, true, option_map}
use Rattle.mi_log.specs.DeviceLog.{device_of}
use Rattle.mi_durable.specs.Durable.{hub_of, log_of}
use Rattle.mi_recovery.specs.Device.{told_of}
use Rattle.mi_serving.specs.Words.{keeping_of, segment_bytes_of}
use Rattle.mi_serving.proofs.ServedLemmas.{over_by}
use Rattle.mi_serving.proofs.program.serve_hub.Goals as goal

pub serve-failure-requires-clause-settled : goal.serve-failure-requires-clause-settled
serve-failure-requires-clause-settled g c = λ _. c.requires.settled

pub returns : goal.returns
returns g c =
    let told = told_of g.P.File.Device.contents in
    let words = option_map (λ words. words.now) c.args.journal in
    let rolling = c.rolling_of-rolling.result in (
      hub_of c.serve-failure.new.durable,
      told (device_of (log_of c.serve-failure.new.durable)),
      over_by {G = g.row.P-File.Denot} (λ _. None) (λ file. g.P.File.JournalFile.is_locked file ≡ true) (g.P.JournalFiles.is_seen c.args.files.now)
          (g.P.JournalFiles.is_newest c.args.files.now) g.P.File.Device.contents rolling.schema.now c.args.schema.now rolling.keeping (keeping_of words)
          rolling.most (segment_bytes_of words) _ _ _ _ c.rolling_of-rolling.ensures.schema c.rolling_of-rolling.ensures.keeping
          c.rolling_of-rolling.ensures.most c.serve-failure.ensures.turns,
      c.serve-failure.ensures.ends,
    )
