-- Zeros behind the end of a file are room.
use Rattle.mi_log.proofs.RoomLemmas.{roomy_grown}
use Rattle.mi_log.proofs.room_file.RoomFile.grow.Goals as goal

-- src/room_file.rt:81:13
pub invariant_of-self-in-pieces-clause-is_roomy : goal.invariant_of-self-in-pieces-clause-is_roomy
invariant_of-self-in-pieces-clause-is_roomy g c =
    roomy_grown (g.F.PlacedFile.contents c.pieces.self.file) (g.F.PlacedFile.contents c.write_at.new.self) c.pieces.self.end c.pieces.self.size
    c.in-Ok.count _ c.pieces.self.is_roomy c.in-Ok.ensures.bound c.pieces.invariant.2 c.in-Ok.ensures.bytes
