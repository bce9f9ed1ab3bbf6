-- The rows that are left stay in order.
use Rattle.std.proofs.Common.{List, not, subst, sym}
use Rattle.std.specs.Prelude.{◌==◌}
use Rattle.mi_catalog.specs.Key.{Row}
use Rattle.mi_model.specs.Table.{Rise}
use Rattle.mi_model.proofs.TableLaws.{rise_filter}
use Rattle.mi_plain.proofs.table.PlainTable.remove.Goals as goal

pub invariant_of-self : goal.invariant_of-self
invariant_of-self c = (
  c.self.invariant.0,
  c.self.invariant.1,
  subst (λ (rows : List Row). Rise c.self.inside.next rows) (sym c.remove_row.ensures)
      (rise_filter c.self.inside.next (λ (r : Row). not (r.0 == c.args.id)) c.self.inside.rows.items c.self.invariant.2),
)
