-- A row with another record keeps its place.
use Rattle.std.proofs.Common.{◌≤◌, ◌+◌, List, subst, sym, arith}
use Rattle.std.proofs.lemmas.Grind.{common_steps}
use Rattle.mi_value.specs.declared.limits.TheConstants.{LAST_COUNT}
use Rattle.mi_catalog.specs.Key.{Row}
use Rattle.mi_model.specs.Table.{Rise}
use Rattle.mi_model.proofs.TableLaws.{rise_set_value}
use Rattle.mi_plain.proofs.table.PlainTable.put.Goals as goal

pub invariant_of-self : goal.invariant_of-self
invariant_of-self c =
    let arrivals : c.self.inside.arrivals + 1 ≤ LAST_COUNT = grind (arith, common_steps) in (
      c.self.invariant.0,
      arrivals,
      subst (λ (rows : List Row). Rise c.self.inside.next rows) (sym c.set_row.ensures)
          (rise_set_value c.self.inside.next c.args.id c.args.row c.self.inside.rows.items c.self.invariant.2),
    )
