-- A file of no byte has none.
use Rattle.std.proofs.Common.{arith}
use Rattle.mi_recovery.proofs.SegmentLemmas.{none_there}
use Rattle.mi_recovery.proofs.beginning.made.Goals as goal

pub returns-clause-empty : goal.returns-clause-empty
returns-clause-empty g c = none_there (g.P.File.Device.contents c.lock.new.file) _ c.in_ok-size_of.ensures (omega arith)
