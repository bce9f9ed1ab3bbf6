-- the images so far are the tables of the first containers
use Rattle.std.proofs.Common.{◌≡◌, map, take}
use Rattle.mi_container.specs.Data.{as_table}
use Rattle.mi_container.specs.Restore.{image_table}
use Rattle.mi_database.proofs.linked.Linked.images.Given as goal

abbrev pub invariant-loop-n : goal.invariant-loop-n
invariant-loop-n g l = map image_table l.images.items ≡ map as_table (map g.C.Container.plain (take l.n l.self-inside.containers.items))
