use Rattle.std.proofs.Common.{◌≡◌, ◌++◌, drop, map, option_map}
use Rattle.arrayvec.specs.ArrayVec.{array_vec_len}
use Rattle.mi_value.specs.Lent.{lent}
use Rattle.mi_protocol.proofs.RowLemmas.{pairwise, names, names_of}
use Rattle.mi_protocol.proofs.row.put_in_order.Given as goal

-- the values so far, and those of the columns to come, are those of all; and the names are the same where those to come are
abbrev pub invariant-columns : goal.invariant-columns
invariant-columns g l = (array_vec_len l.values ≡ l.i)
    × (option_map (λ vs. map lent l.values.items ++ vs) (pairwise (drop l.i l.columns) (drop l.i l.members)) ≡ pairwise l.columns l.members)
    × (names (drop l.i l.members) ≡ names_of (drop l.i l.columns) → names l.members ≡ names_of l.columns)
