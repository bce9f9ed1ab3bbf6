use Rattle.std.proofs.Common.{◌≡◌, ◌++◌, drop}
use Rattle.std.specs.String.{string_bytes}
use Rattle.mi_recovery.specs.Fingerprint.{lines_of_all, part_text}
use Rattle.mi_recovery.proofs.digest.add_parts.Given as goal

-- with those to come all are added
abbrev pub invariant-parts : goal.invariant-parts
invariant-parts l = string_bytes l.text ++ lines_of_all part_text (drop l.part-index l.parts) ≡ string_bytes l.fn.text ++ lines_of_all part_text l.parts
