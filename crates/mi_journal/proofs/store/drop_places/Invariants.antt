-- the marks that are left take off what all of them do
use Rattle.std.proofs.Common.{◌≡◌, drop, length}
use Rattle.std.specs.VecDeque.{deque_capacity}
use Rattle.mi_journal.specs.Filled.{marked}
use Rattle.mi_journal.proofs.store.drop_places.Given as goal

abbrev pub invariant-loop-there : goal.invariant-loop-there
invariant-loop-there l = (drop (marked l.marks) l.ring.items ≡ drop (marked l.fn.marks) l.initial.ring.items)
    × (deque_capacity l.ring ≡ deque_capacity l.initial.ring)

abbrev pub decreases-loop-there : goal.decreases-loop-there
decreases-loop-there l = length l.marks
