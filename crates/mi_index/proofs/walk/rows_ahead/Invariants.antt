-- the rows so far are those of the first nodes, which stay in the range, and the walk has the others ahead; each node but for the
-- path's length cost two reads, and one comparison
use Rattle.std.proofs.Common.{◌≡◌, ℕ, ◌+◌, ◌-◌, ◌*◌, ◌≤◌, ◌⊎◌, List, length, map, take, drop}
use Rattle.std.specs.List.{prefix_len}
use Rattle.mi_node.specs.Refs.{Ref}
use Rattle.mi_tree.specs.Walking.{IsWalk}
use Rattle.mi_index.specs.Ranges.{stays_in}
use Rattle.mi_index.specs.Walks.{shown_row}
use Rattle.mi_index.proofs.walk.rows_ahead.Given as goal

abbrev pub invariant-nodes : goal.invariant-nodes
invariant-nodes l =
    record {
      pool : l.p.pool ≡ l.fn.p.pool;
      ahead : (levels : ℕ) (us : List Ref) → IsWalk l.fn.walk l.fn.p.pool levels us → IsWalk l.walk l.p.pool levels (drop (length l.rows.items) us);
      taken : (levels : ℕ) (us : List Ref) → IsWalk l.fn.walk l.fn.p.pool levels us
          → map (λ r. (r.0, r.1.now)) l.rows.items ≡ map (shown_row l.fn.p.pool) (take (length l.rows.items) us);
      stay : (levels : ℕ) (us : List Ref) → IsWalk l.fn.walk l.fn.p.pool levels us
          → length l.rows.items ≤ prefix_len (stays_in l.range) (map (shown_row l.fn.p.pool) us);
      within : length l.rows.items ≤ l.limit;
      reads : l.p.reads + length l.fn.walk.path.items ≤ (l.fn.p.reads + length l.walk.path.items) + 2 * length l.rows.items;
      low : (levels : ℕ) (us : List Ref) → IsWalk l.fn.walk l.fn.p.pool levels us
          → (length l.walk.path.items ≤ length l.fn.walk.path.items) ⊎ (length l.walk.path.items ≤ levels);
      steps : l.steps.count ≤ l.fn.steps.count + length l.rows.items;
    }

abbrev pub decreases-nodes : goal.decreases-nodes
decreases-nodes l = l.limit - length l.rows.items
