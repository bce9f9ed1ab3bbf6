-- Eight bytes are others, and as many are there.
use Rattle.std.proofs.Common.{◌≡◌, ◌+◌, refl, ◌∙◌, arith, FitsSigned}
use Rattle.std.specs.Prelude.{◌-◌}
use Rattle.std.specs.Int.{w64, to_le_bytes, cast_unsigned}
use Rattle.std.proofs.lemmas.Int.{to_z-of_z}
use Rattle.mi_value.proofs.NumberLemmas.{numbered}
use Rattle.mi_value.proofs.bytes.Short.with_number.Goals as goal

pub returns : goal.returns
returns c =
    let fits : FitsSigned w64 c.args.n = c.ranges.n in
    let eight = to_le_bytes w64 (cast_unsigned w64 c.args.n) in
    let put : c.copy_from_slice.new.self ≡ eight = c.copy_from_slice.ensures.after ∙ (rw (to_z-of_z w64 c.args.n fits) at c.to_le_bytes.ensures) in
    let many : c.args.place + 8 - c.args.place ≡ 8 = omega arith in
    rw (many, put) (numbered c.args.self.now.bytes eight c.args.self.now.length c.args.place c.requires refl)
