-- The values are counted to their end.
use Rattle.std.proofs.lemmas.Iterator.Consumers.{count_from_yields_List, YieldsList-from_first}
use Rattle.mi_value.specs.Lent.{lent}
use Rattle.mi_value.proofs.record.Record.column_count.Goals as goal

pub returns : goal.returns
returns c = count_from_yields_List c.values.result c.count.result c.count.ensures.ran (YieldsList-from_first lent (λ s. s) c.args.self.now c.values.ensures.all)
