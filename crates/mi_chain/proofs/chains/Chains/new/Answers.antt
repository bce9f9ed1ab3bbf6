-- Sixteen empty buckets are chains of no node.
use Rattle.std.proofs.Common.{◌≡◌, replicate, vec_len, None, refl, rules, arith}
use Rattle.mi_chain.proofs.chains.Chains.new.Goals as goal

pub returns : goal.returns
returns g c =
    let v = c.in_ok-vec.field-0 in
    let count : vec_len v ≡ 16 = c.in_ok-vec.ensures.len in
    let items : v.items ≡ replicate 16 None = search rules in
    record { slot = refl; keys_are = refl; some = omega arith; power = (4, count); empty = λ i lt. search rules; none = refl }
