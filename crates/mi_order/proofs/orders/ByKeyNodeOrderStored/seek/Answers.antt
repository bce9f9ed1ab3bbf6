-- A node stands to a key the other way round than the key to its row.
use Rattle.std.proofs.Common.{List, ap, ◌∙◌}
use Rattle.std.specs.Ordering.{ordering_reverse}
use Rattle.mi_value.specs.declared.compare.KeyPart.{KeyPart}
use Rattle.mi_catalog.specs.Key.{compare_to_row}
use Rattle.mi_order.specs.Orders.{row_in}
use Rattle.mi_order.proofs.orders.ByKeyNodeOrderStored.seek.Goals as goal

pub returns-in-Key-clause-result : goal.returns-in-Key-clause-result
returns-in-Key-clause-result c =
    let asked = ap (λ (ps : List KeyPart). compare_to_row ps c.in-Key.key.now (row_in c.args.value.now)) c.as_slice.ensures in
    rw c.in-Key.is (c.reverse.ensures ∙ ap ordering_reverse (c.compare_to_row.ensures ∙ asked))
