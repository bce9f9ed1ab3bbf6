-- the lists of the indexes so far
use Rattle.std.proofs.Common.{◌≡◌, map, take}
use Rattle.mi_container.specs.Restore.{image_table}
use Rattle.mi_reshape.specs.Reshaped.{reshaped_list}
use Rattle.mi_reshape.proofs.indexes.put_lists.Given as goal

abbrev pub invariant-loop-index : goal.invariant-loop-index
invariant-loop-index l = map (λ m. m.items) l.made.items ≡ map (reshaped_list l.from l.to (image_table l.image)) (take l.index-index l.to.indexes)
