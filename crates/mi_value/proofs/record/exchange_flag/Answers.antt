-- The bytes hold another flag, and texts where they did.
use Rattle.std.proofs.Common.{◌≡◌, ap, sym, ◌∙◌}
use Rattle.std.specs.Prelude.{slice_set}
use Rattle.mi_value.specs.Block.{unpacked}
use Rattle.mi_value.specs.Bytes.{short_bytes}
use Rattle.mi_value.specs.Numbers.{IsFlagAt, flag_tag}
use Rattle.mi_value.specs.declared.value.Value.TheVariants.{Flag}
use Rattle.mi_value.proofs.NumberLemmas.{texts_set}
use Rattle.mi_value.proofs.record.exchange_flag.Goals.{then-flag, else-flag}
use Rattle.mi_value.proofs.record.exchange_flag.Goals as goal

pub returns-clause-texts : goal.returns-clause-texts
returns-clause-texts c =
    let held = unpacked (short_bytes c.args.short.now) in
    let there : IsFlagAt (short_bytes c.args.short.now) c.args.column c.in_ok-place.place = rw (← c.as_slice.ensures) c.in_ok-place.ensures in
    let byte : c.if-flag.with_byte ≡ flag_tag c.args.flag = elim c.if-flag.branch [
      | then-flag w ↦ w.with_byte-is ∙ ap flag_tag (sym w.if-flag.true)
      | else-flag w ↦ w.with_byte-is ∙ ap flag_tag (sym w.if-flag.false)
    ] in
    let made : unpacked (short_bytes c.with_byte.result) ≡ slice_set held c.args.column (Flag c.args.flag) =
    ap unpacked (c.with_byte.ensures ∙ ap (slice_set (short_bytes c.args.short.now) c.in_ok-place.place) byte) ∙ there.other c.args.flag in
    rw made (texts_set held c.args.column (Flag c.args.flag) tt c.requires)
