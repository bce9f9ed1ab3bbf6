-- the marks of the indexes so far
use Rattle.std.proofs.Common.{◌≡◌, take}
use Rattle.mi_multi.specs.Columns.{keys_with}
use Rattle.mi_multi.proofs.changed.keys_with.Given as goal

abbrev pub invariant-loop-index : goal.invariant-loop-index
invariant-loop-index l = l.marks.items ≡ keys_with l.column l.changed (take l.index-index l.indexes)
