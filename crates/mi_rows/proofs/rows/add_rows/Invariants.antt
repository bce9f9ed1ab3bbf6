use Rattle.std.proofs.Common.{◌≡◌, ◌≤◌, ◌-◌, ◌++◌, drop, length, map, nat_lt, take, vec_len, false}
use Rattle.serde_json.specs.Written.{items_text}
use Rattle.mi_rows.specs.Rows.{rows_items}
use Rattle.mi_rows.proofs.rows.add_rows.Given as goal

-- the rows so far are added: with those to come they are all
abbrev pub invariant-rows : goal.invariant-rows
invariant-rows l =
    (l.end ≤ vec_len l.text) × (l.done ≤ length l.rows)
    × (take l.end l.text.items ++ items_text (nat_lt 0 l.done) (rows_items l.columns (map (λ r. (r.0, r.1.now)) (drop l.done l.rows)))
    ≡ take l.at l.initial.text.items ++ items_text false (rows_items l.columns (map (λ r. (r.0, r.1.now)) l.rows)))

abbrev pub decreases-rows : goal.decreases-rows
decreases-rows l = length l.rows - l.done
