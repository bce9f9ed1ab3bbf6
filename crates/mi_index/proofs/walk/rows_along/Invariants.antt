-- the rows so far are those of the first nodes, and the next one is the node behind them; each node cost one read
use Rattle.std.proofs.Common.{◌≡◌, ◌+◌, ◌-◌, ◌≤◌, List, ◌∷◌, length, map, take, drop}
use Rattle.std.specs.Prelude.{None}
use Rattle.mi_node.specs.Refs.{Ref, first_of}
use Rattle.mi_index.specs.Walks.{shown_row, Follow}
use Rattle.mi_index.proofs.walk.rows_along.Given as goal

abbrev pub invariant-nodes : goal.invariant-nodes
invariant-nodes l =
    record {
      pool : l.p.pool ≡ l.fn.p.pool;
      next : (us : List Ref) → Follow l.fn.p.pool l.slot l.direction (l.fn.first ∷ us) → l.next ≡ first_of (drop (length l.rows.items) (l.fn.first ∷ us)) None;
      taken : (us : List Ref) → Follow l.fn.p.pool l.slot l.direction (l.fn.first ∷ us)
          → map (λ r. (r.0, r.1.now)) l.rows.items ≡ map (shown_row l.fn.p.pool) (take (length l.rows.items) (l.fn.first ∷ us));
      within : length l.rows.items ≤ l.limit;
      reads : l.p.reads ≤ l.fn.p.reads + length l.rows.items;
    }

abbrev pub decreases-nodes : goal.decreases-nodes
decreases-nodes l = l.limit - length l.rows.items
