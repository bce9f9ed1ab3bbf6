use Rattle.std.proofs.Common.{◌≡◌, ◌++◌, drop}
use Rattle.std.specs.String.{string_bytes}
use Rattle.mi_recovery.specs.Fingerprint.{lines_of_all, index_text}
use Rattle.mi_recovery.proofs.digest.add_indexes.Given as goal

-- with those to come all are added
abbrev pub invariant-indexes : goal.invariant-indexes
invariant-indexes l = string_bytes l.text ++ lines_of_all index_text (drop l.index-index l.indexes) ≡ string_bytes l.fn.text ++ lines_of_all index_text l.indexes
