-- the tables so far, none of which has a column of another type
use Rattle.std.proofs.Common.{◌≡◌, None, map, take}
use Rattle.std.specs.List.{AllByRecursion}
use Rattle.mi_container.specs.Restore.{image_table}
use Rattle.mi_reshape.specs.Catalogs.{table_under, other_column}
use Rattle.mi_reshape.proofs.catalogs.put_all.Given as goal

abbrev pub invariant-loop-table : goal.invariant-loop-table
invariant-loop-table l = record {
  tables : map image_table l.made.items ≡ map (table_under l.from (map image_table l.images)) (take l.table l.to.tables);
  types : AllByRecursion (λ s. other_column l.from s ≡ None) (take l.table l.to.tables);
}
