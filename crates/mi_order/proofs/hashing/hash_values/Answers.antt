-- The secret goes in at the beginning, by the factor, and at the end.
use Rattle.std.proofs.Common.{ap, ◌∙◌, fold}
use Rattle.std.specs.Prelude.{bit_xor}
use Rattle.mi_order.specs.Hashing.{folded, after_value, values_hash}
use Rattle.mi_order.proofs.hashing.hash_values.Goals as goal

pub returns : goal.returns
unfolding values_hash
returns c =
    let secret = c.args.secret in
    c.folded.ensures ∙ ap (λ s. folded c.factor_of-factor.result (bit_xor s secret)) c.after_values-state.ensures
    ∙ ap (λ f. folded f (bit_xor (fold (after_value f) secret c.args.values.now) secret)) c.factor_of-factor.ensures
