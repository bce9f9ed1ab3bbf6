-- The low bits of a hash are its rest by a power of two.
use Rattle.std.proofs.Common.{◌%◌, ◌-◌, sym, ap, ◌∙◌, bit_and}
use Rattle.std.proofs.lemmas.Nat.{and_mask}
use Rattle.mi_chain.proofs.chains.Chains.bucket.Goals as goal

pub returns : goal.returns
returns g c =
    let e = c.requires.1 in (λ i. bit_and c.args.hash ((c.len.ensures ∙ e) i - 1)) ∙ and_mask c.args.hash c.requires.0 ∙ ap (λ z. c.args.hash % z) (sym e)
