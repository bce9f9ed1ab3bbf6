use Rattle.std.proofs.Common.{◌≡◌, ◌≤◌, length, take}
use Rattle.mi_request.specs.Places.{last_at}
use Rattle.mi_request.proofs.object.place_of.Given as goal

abbrev pub decreases-places : goal.decreases-places
decreases-places l = l.left

abbrev pub invariant-places : goal.invariant-places
invariant-places l = (last_at l.name l.members ≡ last_at l.name (take l.left l.members)) × (l.left ≤ length l.members)
