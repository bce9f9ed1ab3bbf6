use Rattle.std.proofs.Common.{◌≡◌, ◌++◌, map, length}
use Rattle.serde_json.specs.View.{view}
use Rattle.mi_base.specs.Base.{value_data}
use Rattle.mi_base.proofs.rows.push_values.Given as goal

-- with those to come all are put
abbrev pub invariant-values : goal.invariant-values
invariant-values l = map view l.items.items ++ map value_data l.values ≡ map view l.fn.items.items ++ map value_data l.row

abbrev pub decreases-values : goal.decreases-values
decreases-values l = length l.values
