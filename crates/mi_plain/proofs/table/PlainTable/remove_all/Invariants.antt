-- taking out the rest too is taking out all
use Rattle.std.proofs.Common.{◌≡◌, drop}
use Rattle.mi_model.specs.Change.{erase_all}
use Rattle.mi_plain.proofs.table.PlainTable.remove_all.Given as goal

abbrev pub invariant-loop-id : goal.invariant-loop-id
invariant-loop-id l = erase_all (drop l.id-index l.ids) l.self ≡ erase_all l.ids l.initial.self
