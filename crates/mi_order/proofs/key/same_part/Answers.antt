-- A direction changes no equality.
use Rattle.std.proofs.Common.{sym, ◌∙◌}
use Rattle.std.specs.Ordering.{is_eq}
use Rattle.mi_value.specs.Order as order
use Rattle.mi_order.proofs.KeyLemmas.{directed_eq}
use Rattle.mi_order.proofs.key.same_part.Goals as goal

pub returns : goal.returns
returns c =
    c.same_missing.ensures ∙ (λ i. is_eq (order.compare_missing (c.get-left.ensures i) (c.get-right.ensures i)))
    ∙ sym (directed_eq c.args.part.now.descending _)
