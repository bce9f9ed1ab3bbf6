-- The bucket of the key's hash has its group, if there is one, whose first node has the lowest stamp.
use Rattle.std.proofs.Common.{◌<◌, ◌%◌, sym, ap, ◌∙◌, subst, vec_len, slice_index_or, None}
use Rattle.mi_chain.specs.Keying.{stamp_at, hash_node, has_key, same_nodes}
use Rattle.mi_chain.proofs.KeyingLemmas.{alike, same_hash, of_probe, hash_of_probe}
use Rattle.mi_chain.proofs.StandingLemmas.{first_found, in_is}
use Rattle.mi_chain.proofs.CallLemmas.{here, groups_at, chain_here, tags_here}
use Rattle.mi_chain.proofs.chains.Chains.first_of.Goals as goal

pub bucket-bucket-requires : goal.bucket-bucket-requires
bucket-bucket-requires g c = c.requires.1.power

pub head-requires : goal.head-requires
head-requires g c = let l = c.args.self.now in let k = g.H.KeyHash.keying l.keys in let w = g.met.H.KeyHash.lawful l.keys in
    subst (λ i. i < vec_len l.buckets) (sym c.bucket-bucket.ensures) (here l k w c.args.p.now c.requires.0 c.hash_key-hash.result c.requires.1)

pub group_of_key-requires-clause-slot : goal.group_of_key-requires-clause-slot
group_of_key-requires-clause-slot g c = let b = c.requires.1.buckets in b.slot

pub group_of_key-requires-clause-chain : goal.group_of_key-requires-clause-chain
group_of_key-requires-clause-chain g c =
    let l = c.args.self.now in let k = g.H.KeyHash.keying l.keys in let w = g.met.H.KeyHash.lawful l.keys in let x = c.hash_key-hash.result in (
      groups_at l k w c.args.p.now c.requires.0 c.requires.1 x,
      chain_here l k w c.args.p.now c.requires.0 c.requires.1 x c.head.result
          (c.head.ensures ∙ ap (λ i. slice_index_or l.buckets.items i None) c.bucket-bucket.ensures),
      tags_here l k w c.args.p.now c.requires.0 c.requires.1 x,
    )

pub returns : goal.returns
returns g c rs h =
    let v = c.args in let l = v.self.now in let m = v.p.now in let k = g.H.KeyHash.keying l.keys in
    let w = g.met.H.KeyHash.lawful l.keys in let n = vec_len l.buckets in
    let x = c.hash_key-hash.result in
    let chain = chain_here l k w m rs h x c.head.result (c.head.ensures ∙ ap (λ i. slice_index_or l.buckets.items i None) c.bucket-bucket.ensures) in
    first_found (same_nodes k m) (alike k m w) (stamp_at m l.slot) (hash_node k m) (same_hash k m w) m l.slot
    l.buckets.items n rs h.buckets (has_key k m v.key) (of_probe k m w v.key) (x % n) (here l k w m rs x h)
    (λ q t. in_is (same_nodes k m) (alike k m w) (stamp_at m l.slot) (hash_node k m) (same_hash k m w)
    n (x % n) q (ap (λ z. z % n) (hash_of_probe k m w v.key q t ∙ sym c.hash_key-hash.ensures)))
    c.group_of_key.result (c.group_of_key.ensures (groups_at l k w m rs h x) chain (tags_here l k w m rs h x))
