-- the rows so far have come in, and the others are left in reverse
use Rattle.std.proofs.Common.{◌≡◌, ◌≤◌, ℕ, List, ◌++◌, length, reverse}
use Rattle.mi_value.specs.declared.value.Value.{Value}
use Rattle.mi_container.specs.Restore.{HasRows, next_after}
use Rattle.mi_multi.proofs.multi.MultiIndex.add_rows.Given as goal

abbrev pub invariant-rows : goal.invariant-rows
invariant-rows l = (done : List (ℕ × List Value)) × (done ++ reverse l.rest.items ≡ l.fn.rows.items) × HasRows done l.self.plain
    × (l.self.plain.next ≡ next_after 0 done) × (l.self.plain.next ≤ l.next) × (l.self.shape ≡ l.fn.self.shape) × (l.self.secrets ≡ l.fn.self.secrets)

abbrev pub decreases-rows : goal.decreases-rows
decreases-rows l = length l.rest.items
