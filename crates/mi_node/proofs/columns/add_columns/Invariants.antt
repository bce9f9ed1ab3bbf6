use Rattle.std.proofs.Common.{◌≡◌, ◌≤◌, ◌-◌, length}
use Rattle.mi_node.proofs.columns.add_columns.Given as goal

abbrev pub invariant-loop-alloc : goal.invariant-loop-alloc
invariant-loop-alloc l = record { few : length l.columns.items ≤ l.slots; full : length l.fn.columns.items ≡ l.slots → l.columns.items ≡ l.fn.columns.items }

abbrev pub decreases-loop-alloc : goal.decreases-loop-alloc
decreases-loop-alloc l = l.slots - length l.columns.items
