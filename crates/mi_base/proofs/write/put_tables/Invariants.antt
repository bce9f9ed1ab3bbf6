use Rattle.std.proofs.Common.{map, take}
use Rattle.mi_container.specs.Restore.{image_table}
use Rattle.mi_base.specs.Base.{tables_lines}
use Rattle.mi_base.specs.Writes.{Puts}
use Rattle.mi_base.proofs.write.put_tables.Given as goal

-- the images so far are written
abbrev pub invariant-tables : goal.invariant-tables
invariant-tables g l =
    Puts (g.W.Write.contents l.fn.out) (g.W.Write.contents l.out) l.fn.digest l.digest (tables_lines l.catalog.tables (map image_table (take l.table l.images)))
