-- the values of the sources so far
use Rattle.std.proofs.Common.{◌≡◌, map, take}
use Rattle.mi_value.specs.Lent.{lent}
use Rattle.mi_reshape.specs.Reshaped.{source_value}
use Rattle.mi_reshape.proofs.columns.put_row.Given as goal

abbrev pub invariant-loop-source : goal.invariant-loop-source
invariant-loop-source l = map lent l.values.items ≡ map (source_value l.row) (take l.source-index l.sources)
