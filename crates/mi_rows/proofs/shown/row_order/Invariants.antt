use Rattle.std.proofs.Common.{◌≡◌, ◌+◌, ◌*◌, ◌≤◌, ℕ, List, drop, length}
use Rattle.arrayvec.specs.ArrayVec.{array_vec_len}
use Rattle.mi_value.specs.declared.value.Value.{Value}
use Rattle.mi_rows.specs.Rows.{with_values, row_members}
use Rattle.mi_rows.specs.Shown.{shown_members}
use Rattle.mi_rows.specs.Labels.{members_room, texts_room}
use Rattle.mi_rows.proofs.shown.row_order.Given as goal

-- of each row that is long enough, the values of the columns to come complete it; the members so far want their own room
abbrev pub invariant-columns : goal.invariant-columns
invariant-columns l =
    (array_vec_len l.order ≤ l.i + 1) × ((id : ℕ) (vs : List Value) → length l.columns ≤ length vs
    → with_values (drop l.i l.columns) (drop l.i vs) (shown_members id vs l.order.items) ≡ row_members l.columns id vs)
    × ((vs : List Value) → members_room vs l.order.items + texts_room (drop l.i vs) ≤ 64 * (l.i + 1) + texts_room vs)
