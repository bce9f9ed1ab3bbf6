-- The bytes hold another number, and texts where they did.
use Rattle.std.proofs.Common.{◌≡◌, ap, ◌∙◌, FitsSigned}
use Rattle.std.specs.Prelude.{slice_set}
use Rattle.std.specs.Int.{w64}
use Rattle.std.proofs.lemmas.Int.{to_z-of_z}
use Rattle.mi_value.specs.Block.{unpacked}
use Rattle.mi_value.specs.Bytes.{short_bytes}
use Rattle.mi_value.specs.Numbers.{IsNumberAt}
use Rattle.mi_value.specs.declared.value.Value.TheVariants.{Int}
use Rattle.mi_value.proofs.NumberLemmas.{texts_set}
use Rattle.mi_value.proofs.record.exchange_number.Goals as goal

pub returns-clause-texts : goal.returns-clause-texts
returns-clause-texts c =
    let fits : FitsSigned w64 c.args.n = c.ranges.n in
    let held = unpacked (short_bytes c.args.short.now) in
    let there : IsNumberAt (short_bytes c.args.short.now) c.args.column c.in_ok-number.number.value c.in_ok-number.number.place =
    rw (← c.as_slice.ensures) c.in_ok-number.ensures in
    let made : unpacked (short_bytes c.with_number.result) ≡ slice_set held c.args.column (Int c.args.n) =
    ap unpacked (rw (to_z-of_z w64 c.args.n fits) at c.with_number.ensures) ∙ there.other c.args.n fits in
    rw made (texts_set held c.args.column (Int c.args.n) tt c.requires)
