use Rattle.std.proofs.Common.{◌≡◌, ◌++◌, drop, option_map}
use Rattle.mi_protocol.specs.EditList.{edits_in}
use Rattle.mi_protocol.specs.Edits.{edits_from}
use Rattle.mi_protocol.proofs.edits.edits_of.Given as goal

-- the edits so far, and those of the columns to come, are those of all
abbrev pub invariant-columns : goal.invariant-columns
invariant-columns l = option_map (λ es. edits_in l.edits ++ es) (edits_from l.i (drop l.i l.columns) l.set l.add) ≡ edits_from 0 l.columns l.set l.add
