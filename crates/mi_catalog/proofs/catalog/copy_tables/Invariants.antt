-- the schemas so far are copied
use Rattle.std.proofs.Common.{◌≡◌, take}
use Rattle.mi_catalog.proofs.catalog.copy_tables.Given as goal

abbrev pub invariant-loop-table : goal.invariant-loop-table
invariant-loop-table l = l.copied.items ≡ take l.table-index l.tables
