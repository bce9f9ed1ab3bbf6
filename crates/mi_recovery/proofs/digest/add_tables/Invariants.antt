use Rattle.std.proofs.Common.{◌≡◌, ◌++◌, drop}
use Rattle.std.specs.String.{string_bytes}
use Rattle.mi_recovery.specs.Fingerprint.{lines_of_all, schema_text}
use Rattle.mi_recovery.proofs.digest.add_tables.Given as goal

-- with those to come all are added
abbrev pub invariant-tables : goal.invariant-tables
invariant-tables l = string_bytes l.text ++ lines_of_all schema_text (drop l.i l.catalog.tables) ≡ string_bytes l.fn.text ++ lines_of_all schema_text l.catalog.tables
