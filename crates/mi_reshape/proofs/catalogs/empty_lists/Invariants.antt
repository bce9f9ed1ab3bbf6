-- an empty list for each index so far
use Rattle.std.proofs.Common.{◌≡◌, [], map, take}
use Rattle.mi_reshape.proofs.catalogs.empty_lists.Given as goal

abbrev pub invariant-loop-index : goal.invariant-loop-index
invariant-loop-index l = map (λ m. m.items) l.made.items ≡ map (λ _. []) (take l._index-index l.indexes)
