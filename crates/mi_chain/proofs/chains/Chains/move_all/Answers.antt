-- The buckets that were gone over have no group left.
use Rattle.std.proofs.Common.{◌≡◌, ◌<◌, ◌∙◌, sym, subst, vec_len, slice_index_or, None, arith}
use Rattle.mi_node.specs.Pool.{link_of}
use Rattle.mi_chain.specs.Moves.{AreBetween}
use Rattle.mi_chain.proofs.MoveLemmas.{all_below, all_moved, move_on}
use Rattle.mi_chain.proofs.chains.Chains.move_all.Goals as goal

pub move_bucket-requires-clause-moving : goal.move_bucket-requires-clause-moving
move_bucket-requires-clause-moving g c = let a = c.loop-bucket in let rs = c.requires.0 in
    (rs, subst (λ q. AreBetween a.self a.old.items (vec_len a.old) (g.H.KeyHash.keying q) a.p rs) (sym a.invariant.5) (a.invariant.0 rs c.requires.1).0)

pub loop-bucket-preserved : goal.loop-bucket-preserved
loop-bucket-preserved g c = let v = c.args in let a = c.loop-bucket in let z = c.move_bucket.new in
    let count : vec_len a.old ≡ c.len-bucket-end.result = a.invariant.2 ∙ sym c.len-bucket-end.ensures in
    let lt : a.bucket < c.len-bucket-end.result = c.loop-bucket-test.true in (
      λ rs b. move_on g.H.KeyHash.keying (λ k. AreBetween a.self a.old.items (vec_len a.old) k a.p rs) (λ k. AreBetween z.self z.old.items (vec_len z.old) k z.p rs)
          v.p.now a.p z.p rs a.invariant.5 a.invariant.4 (c.move_bucket.ensures.moving rs) (c.move_bucket.ensures.keeps rs) (a.invariant.0 rs b),
      all_below (λ i. slice_index_or z.old.items i None ≡ None) a.bucket
          (λ i less. c.move_bucket.ensures.others i (let top = subst (λ n. a.bucket < n) (sym count) lt in omega arith) (a.invariant.1 i less))
          c.move_bucket.ensures.empty,
      c.move_bucket.ensures.left ∙ a.invariant.2,
      c.move_bucket.ensures.count ∙ a.invariant.3,
      c.move_bucket.ensures.slot ∙ a.invariant.4,
      c.move_bucket.ensures.keys ∙ a.invariant.5,
      λ q. subst (λ t. (link_of z.p q t).tag ≡ (link_of a.p q t).tag) a.invariant.4 (c.move_bucket.ensures.tags q) ∙ a.invariant.6 q,
    )

pub returns-clause-list : goal.returns-clause-list
returns-clause-list g c rs b = let l = c.args.self.now in let a = c.loop-bucket in
    let count : vec_len a.old ≡ c.len-bucket-end.result = a.invariant.2 ∙ sym c.len-bucket-end.ensures in
    let end = c.loop-bucket-test.false in
    all_moved (g.H.KeyHash.keying l.keys) (g.met.H.KeyHash.lawful l.keys) a.self a.old.items (vec_len a.old) a.p rs
    (a.invariant.0 rs b).0 (λ i lt. a.invariant.1 i (let less = subst (λ n. i < n) count lt in omega arith))

pub returns-clause-keeps : goal.returns-clause-keeps
returns-clause-keeps g c rs b = (c.loop-bucket.invariant.0 rs b).1
