-- The values at the parts are gone over part by part; the secret goes in at the beginning, by the factor, and at the end.
use Rattle.std.proofs.Common.{ap, ◌∙◌, fold}
use Rattle.std.specs.Prelude.{bit_xor}
use Rattle.mi_value.specs.Hash.{key_values}
use Rattle.mi_order.specs.Hashing.{folded, after_value, values_hash}
use Rattle.mi_order.proofs.HashLemmas.{over_parts}
use Rattle.mi_order.proofs.hashing.hash_key.Goals as goal

pub returns : goal.returns
unfolding values_hash
returns c =
    let secret = c.args.secret in
    let factor = c.factor_of-factor.result in
    let ps = c.args.parts.now in
    let r = c.args.row.now in
    c.folded.ensures ∙ ap (λ s. folded factor (bit_xor s secret)) (c.after_parts-state.ensures ∙ over_parts factor secret r ps)
    ∙ ap (λ f. folded f (bit_xor (fold (after_value f) secret (key_values ps r)) secret)) c.factor_of-factor.ensures
