-- the index `id` and the declared indexes so far
use Rattle.std.proofs.Common.{◌≡◌, ◌∷◌, map, take}
use Rattle.mi_schema.specs.Reading.{id_index, index_from}
use Rattle.mi_schema.proofs.build.indexes_of.Given as goal

abbrev pub invariant-loop-index : goal.invariant-loop-index
invariant-loop-index l = l.made.items ≡ id_index ∷ map (index_from l.columns) (take l.index-index l.indexes)
