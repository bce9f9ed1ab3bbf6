-- The eight bytes of a number are those that read as it.
use Rattle.std.proofs.Common.{FitsSigned}
use Rattle.std.specs.Int.{w64, to_le_bytes, cast_unsigned}
use Rattle.std.proofs.lemmas.Int.{to_z-of_z}
use Rattle.mi_value.proofs.BlockLemmas.{put_behind}
use Rattle.mi_value.proofs.record.push_int.Goals as goal

pub returns : goal.returns
returns g c =
    let fits : FitsSigned w64 c.args.n = c.ranges.n in let held = g.S.Sink.held in
    put_behind c.put-2.result (FitsSigned w64 c.args.n) (held c.args.bytes.now) (held c.put.new.self) (held c.put-2.new.self) 0
    c.to_le_bytes.result (to_le_bytes w64 (cast_unsigned w64 c.args.n)) c.in_ok-put.ensures c.put-2.ensures
    (rw (to_z-of_z w64 c.args.n fits) at c.to_le_bytes.ensures) fits
