use Rattle.std.proofs.Common.{◌≡◌, ◌++◌, drop}
use Rattle.std.specs.String.{string_bytes}
use Rattle.mi_recovery.specs.Fingerprint.{lines_of_all, column_text}
use Rattle.mi_recovery.proofs.digest.add_columns.Given as goal

-- with those to come all are added
abbrev pub invariant-columns : goal.invariant-columns
invariant-columns l = string_bytes l.text ++ lines_of_all column_text (drop l.column-index l.columns) ≡ string_bytes l.fn.text ++ lines_of_all column_text l.columns
