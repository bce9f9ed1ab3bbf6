use Rattle.std.proofs.Common.{◌≡◌, ◌≤◌, ◌-◌, ◌++◌, drop, length, map, nat_lt, take}
use Rattle.serde_json.specs.Written.{items_text}
use Rattle.mi_rows.specs.Rows.{rows_items}
use Rattle.mi_rows.proofs.rows.put_fitting.Given as goal

-- the rows so far are put: with those to come they are all
abbrev pub invariant-rows : goal.invariant-rows
invariant-rows l =
    (take l.end l.buf ++ items_text (nat_lt 0 l.done) (rows_items l.columns (map (λ r. (r.0, r.1.now)) (drop l.done l.rows)))
    ≡ take l.at l.initial.buf ++ items_text (nat_lt 0 l.from) (rows_items l.columns (map (λ r. (r.0, r.1.now)) (drop l.from l.rows))))
    × (l.end ≤ length l.buf) × (l.done ≤ length l.rows) × (l.from ≤ l.done) × (length l.buf ≡ length l.initial.buf)
    × (length l.row_values ≡ length l.initial.row_values)

abbrev pub decreases-rows : goal.decreases-rows
decreases-rows l = length l.rows - l.done
