-- the places from the last on, so far
use Rattle.std.proofs.Common.{◌≡◌, ◌+◌, length}
use Rattle.std.specs.List.{All}
use Rattle.std.specs.VecDeque.{deque_len, deque_capacity}
use Rattle.mi_journal.specs.Filled.{marked, IsThere}
use Rattle.mi_journal.proofs.PlaceLemmas.{Storing}
use Rattle.mi_journal.proofs.store.store_places.Given as goal

abbrev pub invariant-loop-place : goal.invariant-loop-place
invariant-loop-place l = Storing l.initial.laid.items l.laid.items l.marks l.initial.ring.items l.ring.items
    × (deque_len l.ring ≡ deque_len l.initial.ring + marked l.marks) × (deque_capacity l.ring ≡ deque_capacity l.initial.ring)
    × (All IsThere l.initial.ring.items → All IsThere l.ring.items)

abbrev pub decreases-loop-place : goal.decreases-loop-place
decreases-loop-place l = length l.laid.items
