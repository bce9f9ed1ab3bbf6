use Rattle.std.proofs.Common.{◌≡◌, take}
use Rattle.mi_rows.proofs.labels.copy_columns.Given as goal

-- those so far are copied
abbrev pub invariant-columns : goal.invariant-columns
invariant-columns l = l.copied.items ≡ take l.column-index l.columns
