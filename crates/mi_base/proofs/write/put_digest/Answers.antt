-- The digest's line is flat, and that of what was hashed.
use Rattle.std.proofs.Common.{subst, sym}
use Rattle.mi_base.specs.Lines.{IsFlat}
use Rattle.mi_base.proofs.FlatLemmas.{digits_flat}
use Rattle.mi_base.proofs.write.put_digest.Goals as goal

pub line_of-requires : goal.line_of-requires
line_of-requires g c = subst IsFlat (sym c.in_ok-value.ensures) (digits_flat _)
