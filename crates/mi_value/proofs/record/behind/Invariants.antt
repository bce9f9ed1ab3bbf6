-- so many values stand before what is left
use Rattle.mi_value.specs.Numbers.{ArePassed}
use Rattle.mi_value.proofs.record.behind.Given as goal

abbrev pub invariant-columns : goal.invariant-columns
invariant-columns l = ArePassed l._column l.bytes l.left
