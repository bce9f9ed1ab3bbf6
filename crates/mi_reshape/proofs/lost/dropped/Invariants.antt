-- what is dropped of the tables so far
use Rattle.std.proofs.Common.{◌≡◌}
use Rattle.std.specs.List.{flat_map, range_with_len}
use Rattle.mi_reshape.specs.Catalogs.{lost_of}
use Rattle.mi_reshape.proofs.lost.dropped.Given as goal

abbrev pub invariant-loop-table : goal.invariant-loop-table
invariant-loop-table l = l.made.items ≡ flat_map (lost_of l.from l.to) (range_with_len 0 l.table)
