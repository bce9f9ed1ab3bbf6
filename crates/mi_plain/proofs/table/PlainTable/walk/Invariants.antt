-- the rows so far are the first from where the walk began, and the next id is the one behind them
use Rattle.std.proofs.Common.{◌≡◌, ◌+◌, ◌-◌, ◌≤◌, length, map, take, drop}
use Rattle.std.specs.Prelude.{IsTrue, IfSome, slice_get}
use Rattle.mi_model.specs.Table.{has, row}
use Rattle.mi_model.specs.View.{view}
use Rattle.mi_model.specs.LookUp.{rank_in}
use Rattle.mi_model.specs.Walk.{turned}
use Rattle.mi_plain.proofs.table.PlainTable.walk.Given as goal

abbrev pub invariant-ids : goal.invariant-ids
invariant-ids l =
    let shown = turned l.reverse (view l.schema l.self l.x) in
    let at = rank_in shown l.first in
    record {
      there : IfSome l.next (λ id. IsTrue (has l.self id));
      taken : map (λ r. (r.0, r.1.now)) l.rows.items ≡ map (row l.self) (take (length l.rows.items) (drop at shown));
      next : l.next ≡ slice_get shown (at + length l.rows.items);
      within : length l.rows.items ≤ l.limit;
    }

abbrev pub decreases-ids : goal.decreases-ids
decreases-ids l = l.limit - length l.rows.items
