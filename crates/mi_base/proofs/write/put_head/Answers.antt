-- The numbers of a table has no floats, and is nested once.
use Rattle.std.proofs.Common.{subst, sym}
use Rattle.mi_base.specs.Lines.{IsFlat}
use Rattle.mi_base.proofs.FlatLemmas.{head_flat}
use Rattle.mi_base.proofs.write.put_head.Goals as goal

pub put_line-requires : goal.put_line-requires
put_line-requires g c = subst IsFlat (sym c.in_ok-value.ensures) (head_flat _ _)
