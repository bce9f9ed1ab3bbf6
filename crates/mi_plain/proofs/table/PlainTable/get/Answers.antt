-- The rows of a table are in order.
use Rattle.std.proofs.Common.{List, subst, sym}
use Rattle.mi_catalog.specs.Key.{Row}
use Rattle.mi_plain.specs.Rows.{AreInOrder}
use Rattle.mi_plain.proofs.SearchLemmas.{in_order}
use Rattle.mi_plain.proofs.table.PlainTable.get.Goals as goal

pub find_row-requires : goal.find_row-requires
find_row-requires c = subst (λ (rows : List Row). AreInOrder rows) (sym c.as_slice.ensures.value)
    (in_order c.self.inside.next c.self.inside.rows.items c.self.invariant.2)
