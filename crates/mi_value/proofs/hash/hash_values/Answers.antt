-- What a value puts into the hash is put in before the values behind it.
use Rattle.std.proofs.Common.{◌+◌, drop, fold, sym, ap, ◌∙◌}
use Rattle.std.proofs.lemmas.List.{at_drop_more}
use Rattle.std.specs.Hash.DefaultHasher as sip
use Rattle.mi_value.specs.declared.value.Value.{Value}
use Rattle.mi_value.specs.Hash.{value_input, after_values}
use Rattle.mi_value.proofs.hash.hash_values.Goals as goal

pub loop-value-preserved : goal.loop-value-preserved
loop-value-preserved c =
    let vs = c.args.values.now in let i = c.loop-value.value-index in let state = c.loop-value.state in
    let more = at_drop_more (after_values state) vs i c.value-item.result c.loop-value-test.true in
    let fed = c.feed.ensures ∙ ap (λ (v : Value). fold sip.write state (value_input v)) (c.lend.ensures ∙ c.value-item.is) in
    ap (λ z. after_values z (drop (i + 1) vs)) fed ∙ sym more ∙ c.loop-value.invariant
