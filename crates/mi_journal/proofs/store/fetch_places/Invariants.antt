-- the places from the first on, so far
use Rattle.std.proofs.Common.{◌≡◌, length}
use Rattle.std.specs.VecDeque.{deque_capacity}
use Rattle.mi_journal.proofs.PlaceLemmas.{Fetching}
use Rattle.mi_journal.proofs.store.fetch_places.Given as goal

abbrev pub invariant-loop-there : goal.invariant-loop-there
invariant-loop-there l = Fetching l.fn.marks l.marks l.initial.ring.items l.ring.items l.laid.items × (deque_capacity l.ring ≡ deque_capacity l.initial.ring)

abbrev pub decreases-loop-there : goal.decreases-loop-there
decreases-loop-there l = length l.marks
