-- all fit, if those that are left do
use Rattle.std.proofs.Common.{drop}
use Rattle.mi_container.specs.Restore.{RowsFit}
use Rattle.mi_multi.proofs.restoring.check_rows.Given as goal

abbrev pub invariant-rows : goal.invariant-rows
invariant-rows l = RowsFit l.schema (drop l.id-index l.rows) → RowsFit l.schema l.rows
