-- A heading has no floats, and is nested once.
use Rattle.std.proofs.Common.{subst, sym}
use Rattle.mi_base.specs.Lines.{IsFlat}
use Rattle.mi_base.proofs.FlatLemmas.{heading_flat}
use Rattle.mi_base.proofs.read.take_heading.Goals as goal

pub accept-requires : goal.accept-requires
accept-requires g c = subst IsFlat (sym c.in_ok-written.ensures) (heading_flat _)
