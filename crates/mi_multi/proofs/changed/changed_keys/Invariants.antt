-- the marks of the indexes so far
use Rattle.std.proofs.Common.{◌≡◌, take}
use Rattle.mi_multi.specs.Changed.{changed_keys}
use Rattle.mi_multi.proofs.changed.changed_keys.Given as goal

abbrev pub invariant-loop-index : goal.invariant-loop-index
invariant-loop-index l = l.marks.items ≡ changed_keys (take l.index-index l.indexes) l.old l.new
