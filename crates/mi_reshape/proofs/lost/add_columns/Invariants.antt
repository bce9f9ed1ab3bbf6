-- the columns so far that are dropped
use Rattle.std.proofs.Common.{◌≡◌, ◌++◌}
use Rattle.std.specs.List.{flat_map, range_with_len}
use Rattle.mi_reshape.specs.Catalogs.{lost_column}
use Rattle.mi_reshape.proofs.lost.add_columns.Given as goal

abbrev pub invariant-loop-number : goal.invariant-loop-number
invariant-loop-number l = l.made.items ≡ l.fn.made.items ++ flat_map (lost_column l.table l.from l.to) (range_with_len 0 l.number)
