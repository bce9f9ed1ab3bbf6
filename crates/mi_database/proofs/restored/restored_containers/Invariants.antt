-- the containers so far are those of the first images, and the other images are left in reverse
use Rattle.std.proofs.Common.{◌≡◌, List, ◌++◌, length, map, reverse}
use Rattle.mi_container.specs.declared.restore.TableImage.{TableImage}
use Rattle.mi_database.specs.Restored.{AreRestored}
use Rattle.mi_database.proofs.restored.restored_containers.Given as goal

abbrev pub invariant-tables : goal.invariant-tables
invariant-tables g l = (done : List TableImage) × (done ++ reverse l.left.items ≡ l.fn.images.items)
    × AreRestored l.catalog l.secret done (map g.C.Container.shape l.made.items) (map g.C.Container.plain l.made.items) (map g.C.Container.secrets l.made.items)

abbrev pub decreases-tables : goal.decreases-tables
decreases-tables g l = length l.left.items
