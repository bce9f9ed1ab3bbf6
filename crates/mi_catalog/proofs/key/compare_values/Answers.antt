-- A key of one value compares as the value.
use Rattle.std.proofs.Common.{sym, ap, ◌∙◌}
use Rattle.std.specs.Ordering.{ordering_then}
use Rattle.std.specs.declared.cmp.Ordering.{Ordering}
use Rattle.std.specs.declared.cmp.Ordering.TheVariants.{Greater}
use Rattle.mi_catalog.proofs.KeyLemmas.{one_value, more_values}
use Rattle.mi_catalog.proofs.key.compare_values.Goals as goal

pub returns-then-is_empty : goal.returns-then-is_empty
returns-then-is_empty c = c.compare_to_id-o.ensures ∙ sym (one_value c.args.first.now c.args.rest.now c.args.id (sym c.is_empty.ensures ∙ c.if-is_empty.true))

pub returns-else-is_empty : goal.returns-else-is_empty
returns-else-is_empty c =
    c.then.ensures ∙ ap (λ (o : Ordering). ordering_then o Greater) c.compare_to_id-o.ensures
    ∙ sym (more_values c.args.first.now c.args.rest.now c.args.id (sym c.is_empty.ensures ∙ c.if-is_empty.false))
