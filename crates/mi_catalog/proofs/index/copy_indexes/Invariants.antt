-- the ones so far are copied
use Rattle.std.proofs.Common.{◌≡◌, take}
use Rattle.mi_catalog.proofs.index.copy_indexes.Given as goal

abbrev pub invariant-loop-index : goal.invariant-loop-index
invariant-loop-index l = l.copied.items ≡ take l.index-index l.indexes
