-- the rows so far
use Rattle.std.proofs.Common.{◌≡◌, map, take}
use Rattle.mi_reshape.specs.Reshaped.{source_value}
use Rattle.mi_reshape.proofs.columns.put_rows.Given as goal

abbrev pub invariant-loop-id : goal.invariant-loop-id
invariant-loop-id l = l.made.items ≡ map (λ r. (r.0, map (source_value r.1) l.sources)) (take l.id-index l.rows)
