-- all turns on what is left
use Rattle.std.proofs.Common.{◌≡◌, drop}
use Rattle.std.specs.Prelude.{◌==◌}
use Rattle.std.specs.List.{list_any}
use Rattle.mi_schema.specs.Checks.{entry_column}
use Rattle.mi_schema.proofs.checks.names_column.Given as goal

abbrev pub invariant-loop-other : goal.invariant-loop-other
invariant-loop-other l =
    list_any (λ other. l.column == entry_column l.columns other) (drop l.other-index l.entries)
    ≡ list_any (λ other. l.column == entry_column l.columns other) l.entries
