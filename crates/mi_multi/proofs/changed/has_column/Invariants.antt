-- whether the parts that are left have the column is whether all have
use Rattle.std.proofs.Common.{◌≡◌, drop}
use Rattle.mi_multi.specs.Columns.{has_column}
use Rattle.mi_multi.proofs.changed.has_column.Given as goal

abbrev pub invariant-loop-part : goal.invariant-loop-part
invariant-loop-part l = has_column l.column (drop l.part-index l.parts) ≡ has_column l.column l.parts
