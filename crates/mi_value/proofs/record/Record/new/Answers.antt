-- The bytes were packed of the values, so they hold them, and their texts are UTF-8.
use Rattle.std.proofs.Common.{map}
use Rattle.mi_value.specs.Lent.{lent}
use Rattle.mi_value.specs.Bytes.{short_bytes}
use Rattle.mi_value.proofs.BlockLemmas.{answered, holds_all, holds_texts}
use Rattle.mi_value.proofs.record.Record.new.Goals as goal

pub invariant_of-result : goal.invariant_of-result
invariant_of-result c =
    let done = answered c.push_values.result _ c.is_ok.ensures.value c.if-is_ok.true c.push_values.ensures in
    holds_texts (short_bytes c.push_values.new.bytes) (short_bytes c.new-short.result) (map lent c.args.values.now) c.new-short.ensures done.0 done.1

pub returns-then-is_ok : goal.returns-then-is_ok
returns-then-is_ok c =
    let done = answered c.push_values.result _ c.is_ok.ensures.value c.if-is_ok.true c.push_values.ensures in
    holds_all (short_bytes c.push_values.new.bytes) (short_bytes c.new-short.result) (map lent c.args.values.now) c.new-short.ensures done.0 done.1

pub invariant_of-result-2 : goal.invariant_of-result-2
invariant_of-result-2 c = holds_texts c.push_values-2.new.bytes.items c.in_ok-block.block.items (map lent c.args.values.now)
    c.in_ok-block.ensures.items c.in_ok-push_values.ensures.0 c.in_ok-push_values.ensures.1

pub returns : goal.returns
returns c = holds_all c.push_values-2.new.bytes.items c.in_ok-block.block.items (map lent c.args.values.now)
    c.in_ok-block.ensures.items c.in_ok-push_values.ensures.0 c.in_ok-push_values.ensures.1
