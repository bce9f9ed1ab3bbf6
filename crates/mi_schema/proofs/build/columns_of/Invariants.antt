-- the columns so far
use Rattle.std.proofs.Common.{◌≡◌, map, take}
use Rattle.mi_schema.specs.Reading.{column_from}
use Rattle.mi_schema.proofs.build.columns_of.Given as goal

abbrev pub invariant-loop-column : goal.invariant-loop-column
invariant-loop-column l = l.made.items ≡ map column_from (take l.column-index l.columns)
