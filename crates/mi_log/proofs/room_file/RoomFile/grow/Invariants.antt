use Rattle.std.proofs.Common.{◌≡◌, ◌≤◌, ◌-◌, true}
use Rattle.mi_log.specs.Room.{front_of, are_zeros}
use Rattle.mi_log.proofs.room_file.RoomFile.grow.Given as goal

-- what was written is as it was, and the room isn't less; what was synced is as it was
abbrev pub invariant-pieces : goal.invariant-pieces
invariant-pieces g l =
    (front_of l.self.end (g.F.PlacedFile.contents l.self.file) ≡ front_of l.fn.self.end (g.F.PlacedFile.contents l.fn.self.file))
    × (l.fn.self.size - l.fn.self.end ≤ l.self.size - l.self.end) × (are_zeros l.zeros ≡ true)
    × (l.self.synced ≡ l.fn.self.synced)

abbrev pub decreases-pieces : goal.decreases-pieces
decreases-pieces g l = l.room - (l.self.size - l.self.end)
