-- The first eight bytes read as the number, and the rest is as it was.
use Rattle.std.proofs.Common.{ap, ◌∙◌, FitsSigned}
use Rattle.std.specs.Int.{w64, from_le_bytes, cast_signed}
use Rattle.std.proofs.lemmas.Int.{to_z-of_z}
use Rattle.mi_value.proofs.BlockLemmas.{int_begins}
use Rattle.mi_value.proofs.record.split_int.Goals as goal

pub returns : goal.returns
returns c =
    let fits : FitsSigned w64 c.from_le_bytes.result = record { sfits = c.from_le_bytes.type_inv } in
    rw (to_z-of_z w64 c.from_le_bytes.result fits) (int_begins c.args.bytes.now
    c.in_ok-number.rest.now c.from_le_bytes.result c.in_ok-number.ensures.cases.2 c.in_ok-number.ensures.cases.1
    (c.from_le_bytes.ensures ∙ ap (λ bs. cast_signed w64 (from_le_bytes w64 bs)) c.in_ok-number.ensures.cases.0))
