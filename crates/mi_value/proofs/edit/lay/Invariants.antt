-- the values so far, and those that are left, are the record's
use Rattle.std.proofs.Common.{◌≡◌, ◌≤◌, ◌++◌, length, take, map}
use Rattle.mi_value.specs.Lent.{lent}
use Rattle.mi_value.proofs.edit.lay.Given as goal

abbrev pub invariant-loop-value : goal.invariant-loop-value
invariant-loop-value l =
    (goal.iterator-loop-value).can_next l.value-iterator ×
    (goal.iterator-loop-value).is_finite l.value-iterator ×
    (l.count ≤ length l.places) × (length l.places ≡ length l.fn.places) ×
    (map lent (take l.count l.places) ++ l.value-iterator ≡ l.row)
