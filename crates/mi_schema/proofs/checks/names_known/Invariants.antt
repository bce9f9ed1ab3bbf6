-- all turns on what is left
use Rattle.std.proofs.Common.{◌≡◌, length, drop}
use Rattle.std.specs.Prelude.{nat_lt}
use Rattle.std.specs.List.{list_all}
use Rattle.mi_schema.specs.Checks.{entry_column}
use Rattle.mi_schema.proofs.checks.names_known.Given as goal

abbrev pub invariant-loop-entry : goal.invariant-loop-entry
invariant-loop-entry l =
    list_all (λ e. nat_lt (entry_column l.columns e) (length l.columns)) (drop l.entry-index l.entries)
    ≡ list_all (λ e. nat_lt (entry_column l.columns e) (length l.columns)) l.entries
