use Rattle.std.proofs.Common.{◌≡◌, ◌≤◌, ◌-◌, ◌++◌, length, map, take}
use Rattle.mi_rows.specs.Labels.{held, row_values_of}
use Rattle.mi_rows.proofs.row_values.lend_values.Given as goal

-- the values so far are lent, and with the values that are left they are all
abbrev pub invariant-row_values : goal.invariant-row_values
invariant-row_values l = (map held (take l.done l.row_values) ++ l.values ≡ row_values_of l.id l.row) × (l.done ≤ l.count) × (length l.row_values ≡ length l.initial.row_values)

abbrev pub decreases-row_values : goal.decreases-row_values
decreases-row_values l = l.count - l.done
