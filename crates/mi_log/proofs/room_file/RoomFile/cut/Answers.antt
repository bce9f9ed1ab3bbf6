-- A file that is cut has no room.
use Rattle.std.proofs.Common.{◌≤◌, arith}
use Rattle.mi_log.proofs.RoomLemmas.{roomy_cut}
use Rattle.mi_log.proofs.room_file.RoomFile.cut.Goals as goal

-- src/room_file.rt:77:9
pub invariant_of-self-2-clause-is_roomy : goal.invariant_of-self-2-clause-is_roomy
invariant_of-self-2-clause-is_roomy g c =
    let within : c.min-end.result ≤ c.args.self.now.end = omega (arith, c.min-end.ensures) in
    roomy_cut (g.F.PlacedFile.contents c.args.self.now.file) (g.F.PlacedFile.contents c.set_len.new.self) c.args.self.now.end
    c.args.self.now.size c.min-end.result c.args.self.now.is_roomy within c.in_ok-set_len.ensures.ok
