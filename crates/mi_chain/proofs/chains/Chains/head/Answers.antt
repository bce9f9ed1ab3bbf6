-- The head that stands in a bucket's place is the first node of its chain.
use Rattle.std.proofs.Common.{◌≡◌, ◌<◌, ◌∙◌, None, length, vec_len, subst}
use Rattle.mi_chain.proofs.StandingLemmas.{any_head}
use Rattle.mi_chain.proofs.chains.Chains.head.Goals as goal

pub returns : goal.returns
returns g c =
    let v = c.args.self.now.buckets in let count : vec_len v ≡ length v.items = v.ok.0 in
    c.node.ensures ∙ c.index.ensures ∙ any_head v.items c.args.bucket _ None (subst (λ n. c.args.bucket < n) count c.requires)
