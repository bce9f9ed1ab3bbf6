-- A list has no floats, and is nested once.
use Rattle.std.proofs.Common.{subst, sym}
use Rattle.mi_base.specs.Lines.{IsFlat}
use Rattle.mi_base.proofs.FlatLemmas.{list_flat}
use Rattle.mi_base.proofs.lists.list_line.Goals as goal

pub line_of-requires : goal.line_of-requires
line_of-requires c = subst IsFlat (sym c.in_ok-value.ensures) (list_flat _)
