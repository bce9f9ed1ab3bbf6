use Rattle.std.proofs.Common.{◌≡◌, ◌+◌, ◌≤◌, ℕ, List, ◌++◌, drop, map}
use Rattle.json.specs.Filled.{Placed}
use Rattle.serde_json.specs.Written.{comma_if}
use Rattle.mi_rows.specs.Labels.{held, labelled_text, labels_room}
use Rattle.mi_rows.proofs.rows.put_row.Given as goal

-- what is put: with the members to come it is the whole row, and there is room for them
abbrev pub invariant-members : goal.invariant-members
invariant-members l =
    let vs = map held l.row_values in let rest = drop l.label-index l.labels in
    (xs : List ℕ) × Placed l.fn.buf l.buf l.at xs l.end
    × (xs ++ labelled_text vs rest ≡ comma_if l.later ++ labelled_text vs l.labels)
    × (l.end + labels_room vs rest ≤ l.at + labels_room vs l.labels + 1)
