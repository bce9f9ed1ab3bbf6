-- A heading has no floats, and is nested once.
use Rattle.std.proofs.Common.{subst, sym}
use Rattle.mi_base.specs.Lines.{IsFlat}
use Rattle.mi_base.proofs.FlatLemmas.{heading_flat}
use Rattle.mi_base.proofs.write.put_heading.Goals as goal

pub put_line-requires : goal.put_line-requires
put_line-requires g c = subst IsFlat (sym c.in_ok-value.ensures) (heading_flat _)
