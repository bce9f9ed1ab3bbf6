-- The labels of members in their order have the row's text and room.
use Rattle.std.proofs.Common.{◌≡◌, ◌<◌, false, length, rules, subst}
use Rattle.std.specs.Prelude.{IfSome}
use Rattle.mi_rows.specs.Labels as given
use Rattle.mi_rows.proofs.LabelLemmas.{are_labels}
use Rattle.mi_rows.proofs.labels.labels_of.Goals as goal

pub returns : goal.returns
returns c =
    let lent = c.as_slice.ensures.value in
    let some : 0 < length c.row_order-order.result.items = search rules in
    are_labels c.args.columns.now c.row_order-order.result.items c.labels_in.result some
    (subst (λ ms. IfSome c.labels_in.result (λ ls. ls.items ≡ given.labels_in false ms)) lent c.labels_in.ensures.labels) c.labels_in.ensures.places
    c.row_order-order.ensures.members c.row_order-order.ensures.room
