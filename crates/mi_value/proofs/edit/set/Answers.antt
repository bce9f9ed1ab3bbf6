-- One column has another value, and the others keep theirs.
use Rattle.std.proofs.lemmas.List.{map-set}
use Rattle.mi_value.specs.Lent.{lent}
use Rattle.mi_value.proofs.edit.set.Goals as goal

pub returns-then-column-values : goal.returns-then-column-values
returns-then-column-values c = map-set lent c.args.values.now c.args.column c.args.value
