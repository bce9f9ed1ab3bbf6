-- The numbers of a table has no floats, and is nested once.
use Rattle.std.proofs.Common.{subst, sym}
use Rattle.mi_base.specs.Lines.{IsFlat}
use Rattle.mi_base.proofs.FlatLemmas.{head_flat}
use Rattle.mi_base.proofs.read.take_head.Goals as goal

pub accept-requires : goal.accept-requires
accept-requires g c = subst IsFlat (sym c.in_ok-written.ensures) (head_flat _ _)
