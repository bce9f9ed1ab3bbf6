-- the ones so far are copied
use Rattle.std.proofs.Common.{◌≡◌, take}
use Rattle.mi_catalog.proofs.index.copy_columns.Given as goal

abbrev pub invariant-loop-column : goal.invariant-loop-column
invariant-loop-column l = l.copied.items ≡ take l.column-index l.columns
