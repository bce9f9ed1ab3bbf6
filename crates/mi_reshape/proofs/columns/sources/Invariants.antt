-- the sources of the columns so far
use Rattle.std.proofs.Common.{◌≡◌, map, take}
use Rattle.mi_reshape.specs.Reshaped.{source_of}
use Rattle.mi_reshape.proofs.columns.sources.Given as goal

abbrev pub invariant-loop-column : goal.invariant-loop-column
invariant-loop-column l = l.made.items ≡ map (source_of l.from) (take l.column-index l.to.columns)
