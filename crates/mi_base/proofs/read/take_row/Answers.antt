-- A row has no floats, and is nested once.
use Rattle.std.proofs.Common.{subst, sym}
use Rattle.mi_base.specs.Lines.{IsFlat}
use Rattle.mi_base.proofs.FlatLemmas.{row_flat}
use Rattle.mi_base.proofs.read.take_row.Goals as goal

pub accept-requires : goal.accept-requires
accept-requires g c = subst IsFlat (sym c.in_ok-written.ensures) (row_flat _)
