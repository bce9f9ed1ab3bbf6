-- so far there is an empty list for each index
use Rattle.std.proofs.Common.{◌≡◌, [], map, take}
use Rattle.mi_catalog.specs.declared.index.Index.{Index}
use Rattle.mi_plain.proofs.ids.empty_lists.Given as goal

abbrev pub invariant-loop-index : goal.invariant-loop-index
invariant-loop-index l = l.new.items ≡ map (λ (_ : Index). []) (take l._index-index l.indexes)
