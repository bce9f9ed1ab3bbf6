-- The row is set where it is found.
use Rattle.std.proofs.Common.{◌≡◌, List, subst, sym, ◌∙◌}
use Rattle.std.specs.List.{position}
use Rattle.std.specs.declared.option.Option.TheVariants.{None, Some}
use Rattle.mi_catalog.specs.Key.{Row}
use Rattle.mi_plain.proofs.RowLemmas.{named, set_value-found, set_value-missing}
use Rattle.mi_plain.proofs.conflict.set_row.Goals as goal

pub returns-in-Some : goal.returns-in-Some
returns-in-Some c = sym (set_value-found c.args.id c.args.row c.args.rows.now.items c.in-Some.i
    (subst (λ (rows : List Row). position (named c.args.id) rows ≡ Some c.in-Some.i) c.as_slice.ensures.value (sym c.place_of.ensures ∙ c.in-Some.is)))

pub returns-in_default : goal.returns-in_default
returns-in_default c = sym (set_value-missing c.args.id c.args.row c.args.rows.now.items
    (subst (λ (rows : List Row). position (named c.args.id) rows ≡ None) c.as_slice.ensures.value (sym c.place_of.ensures ∙ c.in_default.is)))
