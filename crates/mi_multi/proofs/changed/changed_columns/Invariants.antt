-- the columns so far, and those that are left
use Rattle.std.proofs.Common.{◌≡◌, ◌-◌, ◌++◌, length}
use Rattle.mi_multi.specs.Columns.{changed_columns}
use Rattle.mi_multi.proofs.changed.changed_columns.Given as goal

abbrev pub invariant-columns : goal.invariant-columns
invariant-columns l = l.columns.items ++ changed_columns l.before l.after ≡ changed_columns l.old l.new

abbrev pub decreases-columns : goal.decreases-columns
decreases-columns l = 16 - length l.columns.items
