-- The tag of a flag is its byte.
use Rattle.std.proofs.Common.{◌≡◌, ◌⊎◌, inl, inr, arith, rules}
use Rattle.mi_value.proofs.NumberLemmas.{left_long, flag_there}
use Rattle.mi_value.proofs.record.flag_in.Goals.{else-tag-ne-FALSE-via-then-tag-ne-FALSE+else-tag-ne-TRUE, else-tag-ne-FALSE-via-else-tag-ne-FALSE}
use Rattle.mi_value.proofs.record.flag_in.Goals as goal

pub returns : goal.returns
returns c =
    let flag : (c.in_ok-tag.tag.now ≡ 2) ⊎ (c.in_ok-tag.tag.now ≡ 3) = elim c.else-tag-ne-FALSE.branch [
      | else-tag-ne-FALSE-via-then-tag-ne-FALSE+else-tag-ne-TRUE w ↦ inr (search rules)
      | else-tag-ne-FALSE-via-else-tag-ne-FALSE w ↦ inl (search rules)
    ] in
    flag_there c.args.bytes.now c.in_ok-left.left.now c.in_ok-tag.field-0-1.now c.args.column c.in_ok-tag.tag.now _ c.in_ok-left.ensures
    c.in_ok-tag.ensures.cases.0 flag (omega (arith, left_long c.args.column c.args.bytes.now c.in_ok-left.left.now c.in_ok-left.ensures))
