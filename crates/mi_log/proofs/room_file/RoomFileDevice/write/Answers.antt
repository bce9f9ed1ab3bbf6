-- A write behind what was written leaves a file with room.
use Rattle.std.proofs.Common.{subst, sym, ◌+◌}
use Rattle.mi_log.specs.Room.{IsRoomy}
use Rattle.mi_log.proofs.RoomLemmas.{roomy_behind}
use Rattle.mi_log.proofs.room_file.RoomFileDevice.write.Goals as goal

-- src/room_file.rt:122:9
pub invariant_of-self-2-clause-is_roomy : goal.invariant_of-self-2-clause-is_roomy
invariant_of-self-2-clause-is_roomy g c =
    subst (λ size. IsRoomy (g.F.PlacedFile.contents c.write_at.new.self) (c.args.self.now.end + c.in_ok-count.count) size) (sym c.max-self.ensures)
    (roomy_behind (g.F.PlacedFile.contents c.args.self.now.file) (g.F.PlacedFile.contents c.write_at.new.self) c.args.self.now.end c.args.self.now.size
    c.in_ok-count.count c.args.bytes.now c.args.self.now.is_roomy c.in_ok-count.ensures.bound c.in_ok-count.ensures.bytes)
