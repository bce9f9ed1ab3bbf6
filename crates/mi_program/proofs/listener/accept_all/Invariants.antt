use Rattle.std.proofs.Common.{◌≡◌, ◌≤◌}
use Rattle.std.specs.VecDeque.{deque_len, deque_capacity}
use Rattle.mi_program.specs.Turns.{with_clients, HaveCome}
use Rattle.mi_program.proofs.listener.accept_all.Given as goal

-- so many have come
abbrev pub invariant-row : goal.invariant-row
invariant-row g l = record {
  hub : l.hub ≡ with_clients l.before l.fn.hub;
  come : HaveCome l.before l.row.items;
  len : deque_len l.row ≡ l.before;
  room : l.fn.count ≤ deque_capacity l.row;
}
