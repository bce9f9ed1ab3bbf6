-- The parts of a header stand one behind another.
use Rattle.std.proofs.Common.{rules}
use Rattle.mi_recovery.specs.Segments.{segment_front}
use Rattle.mi_recovery.proofs.place.header_front.Goals as goal

pub returns : goal.returns
unfolding segment_front
returns c = search rules
