-- those of the indexes so far
use Rattle.std.proofs.Common.{◌≡◌, ◌≤◌, take}
use Rattle.mi_database.specs.Most.{keyed_count}
use Rattle.mi_database.proofs.linked.keyed_indexes.Given as goal

abbrev pub invariant-loop-i : goal.invariant-loop-i
invariant-loop-i l = (l.count ≡ keyed_count (take l.i l.table.indexes)) × (l.count ≤ l.i)
