use Rattle.std.proofs.Common.{◌≡◌, ◌++◌, drop, map, option_map}
use Rattle.arrayvec.specs.ArrayVec.{array_vec_len}
use Rattle.mi_value.specs.Lent.{lent}
use Rattle.mi_protocol.specs.Values.{values_of}
use Rattle.mi_protocol.proofs.row.record_of.Given as goal

-- the values so far, and those of the columns to come, are those of all
abbrev pub invariant-columns : goal.invariant-columns
invariant-columns l = (array_vec_len l.values ≡ l.column-index)
    × (option_map (λ vs. map lent l.values.items ++ vs) (values_of (drop l.column-index l.columns) l.row) ≡ values_of l.columns l.row)
