-- the schemas so far
use Rattle.std.proofs.Common.{◌≡◌, map, take}
use Rattle.mi_schema.specs.Reading.{shape_from}
use Rattle.mi_schema.proofs.build.schemas_of.Given as goal

abbrev pub invariant-loop-table : goal.invariant-loop-table
invariant-loop-table l = l.made.items ≡ map (shape_from l.first_revision) (take l.table-index l.tables)
