-- Two nodes compare as their rows.
use Rattle.std.proofs.Common.{List, ap, ◌∙◌}
use Rattle.mi_value.specs.declared.compare.KeyPart.{KeyPart}
use Rattle.mi_order.specs.Orders.{stored_order}
use Rattle.mi_order.proofs.orders.ByKeyNodeOrderStored.compare.Goals as goal

pub returns-clause-result : goal.returns-clause-result
returns-clause-result c = c.compare_rows.ensures ∙ ap (λ (ps : List KeyPart). stored_order ps c.args.left.now c.args.right.now) c.as_slice.ensures
