-- The iterator yields the values in order, so the one that it yields there is the column's.
use Rattle.std.proofs.lemmas.Iterator.Consumers.{nth_from_yields_List, YieldsList-from_first}
use Rattle.mi_value.specs.Lent.{lent}
use Rattle.mi_value.proofs.record.Record.get.Goals as goal

pub returns : goal.returns
returns c = nth_from_yields_List c.nth.result _ c.args.column c.nth.ensures.ran (YieldsList-from_first lent (λ s. s) c.args.self.now c.values.ensures.all)
