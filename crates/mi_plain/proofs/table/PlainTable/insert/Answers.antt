-- The next id stands behind all rows.
use Rattle.std.proofs.Common.{◌≤◌, ◌+◌, List, subst, sym, arith}
use Rattle.std.proofs.lemmas.Grind.{common_steps}
use Rattle.mi_value.specs.declared.limits.TheConstants.{LAST_COUNT}
use Rattle.mi_catalog.specs.Key.{Row}
use Rattle.mi_model.specs.Table.{Rise}
use Rattle.mi_model.proofs.TableLaws.{rise_push}
use Rattle.mi_plain.proofs.table.PlainTable.insert.Goals as goal

pub invariant_of-self-2 : goal.invariant_of-self-2
invariant_of-self-2 c =
    let counters : (c.self.inside.next + 1 ≤ LAST_COUNT) × (c.self.inside.arrivals + 1 ≤ LAST_COUNT) = grind (arith, common_steps) in
    let pushed = c.in_default-push.ensures.items in (
      counters.0,
      counters.1,
      subst (λ (rows : List Row). Rise (c.self.inside.next + 1) rows) (sym pushed)
          (rise_push c.self.inside.next c.self.inside.rows.items c.args.row c.self.invariant.2),
    )
