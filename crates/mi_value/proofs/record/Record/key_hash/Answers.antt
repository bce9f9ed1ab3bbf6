-- Each part feeds the hash with its value, if it has one, as the list of values does.
use Rattle.std.proofs.Common.{◌≡◌, ◌+◌, false, drop, get_or, slice_get, sym, ap, ◌∙◌, List}
use Rattle.std.proofs.lemmas.List.{at_drop_more}
use Rattle.mi_value.specs.declared.compare.KeyPart.{KeyPart}
use Rattle.mi_value.specs.Hash.{after_if, after_values, key_values}
use Rattle.mi_value.proofs.HashLaws.{one_part}
use Rattle.mi_value.proofs.record.Record.key_hash.Goals as goal

pub loop-part-preserved : goal.loop-part-preserved
loop-part-preserved c =
    let ps = c.args.parts.now in let r = c.args.self.now in let i = c.loop-part.part-index in let st = c.loop-part.state in
    let d : KeyPart = record { column = 0; descending = false } in
    let more = at_drop_more (λ (qs : List KeyPart). after_values st (key_values qs r)) ps i d c.loop-part-test.true in
    let step = one_part st (get_or ps i d) (drop (i + 1) ps) r in
    let fed : c.feed_at.new.state ≡ after_if st (slice_get r (get_or ps i d).column) = c.feed_at.ensures in
    ap (λ z. after_values z (key_values (drop (i + 1) ps) r)) fed ∙ sym step ∙ sym more ∙ c.loop-part.invariant
