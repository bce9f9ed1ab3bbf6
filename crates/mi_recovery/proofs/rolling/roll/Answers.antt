-- The journal goes on in the segment that was begun.
use Rattle.std.proofs.Common.{◌≡◌, true}
use Rattle.mi_durable.specs.Durable.{log_of}
use Rattle.mi_recovery.proofs.RollingLemmas.{rolls}
use Rattle.mi_recovery.proofs.rolling.roll.Goals as goal

pub returns-in-Ok-clause-rolled : goal.returns-in-Ok-clause-rolled
returns-in-Ok-clause-rolled g c =
    rolls (λ file. g.P.File.JournalFile.is_locked file ≡ true) g.P.File.Device.contents c.args.rolling.now.schema.now c.args.rolling.now.keeping
    c.args.rolling.now.most c.in-Some.number (c.go_on.new.durable ≡ c.args.durable.now) c.go_on.result (log_of c.args.durable.now) c.log.result.now
    c.log-2.result.now c.in-Ok.next (log_of c.go_on.new.durable) c.log.ensures c.log-2.ensures c.in-Some.ensures c.in-Ok.ensures.begins
    c.in-Ok.ensures.segment c.go_on.ensures.log
