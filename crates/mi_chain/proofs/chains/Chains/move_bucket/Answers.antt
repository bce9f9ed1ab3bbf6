-- The groups that were moved stand in new buckets, the others still in the old one.
use Rattle.std.proofs.Common.{◌≡◌, ◌<◌, length, ◌∙◌, sym, ap, subst, vec_len, slice_index_or, Some, None}
use Rattle.mi_node.specs.Pool.{node_count, link_of}
use Rattle.mi_chain.specs.Moves.{AreBetween, hops, next_group}
use Rattle.mi_chain.proofs.MoveLemmas.{move_on}
use Rattle.mi_chain.proofs.StandingLemmas.{any_head}
use Rattle.mi_chain.proofs.chains.Chains.move_bucket.Goals as goal

pub move_group-requires-clause-moving : goal.move_group-requires-clause-moving
move_group-requires-clause-moving g c = let v = c.args in let a = c.loop-first in let o = a.old in let rs = c.requires.moving.0 in
    (rs, subst (λ q. AreBetween a.self o.items (vec_len o) (g.H.KeyHash.keying q) a.p rs) (sym a.invariant.5) (a.invariant.0 rs c.requires.moving.1).0)

pub move_group-requires-clause-bucket : goal.move_group-requires-clause-bucket
move_group-requires-clause-bucket g c = subst (λ z. c.args.bucket < z) (sym c.loop-first.invariant.2) c.requires.bucket

pub move_group-requires-clause-first : goal.move_group-requires-clause-first
move_group-requires-clause-first g c = let v = c.args in let a = c.loop-first in let o = a.old in
    let count : vec_len o ≡ length o.items = o.ok.0 in
    let lt : v.bucket < vec_len o = subst (λ z. v.bucket < z) (sym a.invariant.2) c.requires.bucket in
    let at : slice_index_or o.items v.bucket None ≡ Some c.in-Some.first =
    sym (c.node.ensures ∙ c.index.ensures ∙ any_head o.items v.bucket _ None (subst (λ z. v.bucket < z) count lt)) ∙ c.in-Some.is in
    at

pub loop-first-smaller : goal.loop-first-smaller
loop-first-smaller g c = let v = c.args in let a = c.loop-first in let o = a.old in let z = c.move_group.new in let rs = c.requires.moving.0 in
    let b = subst (λ q. AreBetween a.self o.items (vec_len o) (g.H.KeyHash.keying q) a.p rs) (sym a.invariant.5) (a.invariant.0 rs c.requires.moving.1).0 in
    subst (λ t. hops (next_group z.p t) (node_count z.p) (slice_index_or z.old.items v.bucket None)
    < hops (next_group a.p t) (node_count a.p) (slice_index_or o.items v.bucket None))
    a.invariant.4 (c.move_group.ensures.fewer rs b)

pub returns-clause-moving : goal.returns-clause-moving
returns-clause-moving g c rs b = (c.loop-first.invariant.0 rs b).0

pub returns-clause-keeps : goal.returns-clause-keeps
returns-clause-keeps g c rs b = (c.loop-first.invariant.0 rs b).1

pub loop-first-preserved : goal.loop-first-preserved
loop-first-preserved g c = let v = c.args in let a = c.loop-first in let o = a.old in
    let count : vec_len o ≡ length o.items = o.ok.0 in
    let lt : v.bucket < vec_len o = subst (λ z. v.bucket < z) (sym a.invariant.2) c.requires.bucket in
    let at : slice_index_or o.items v.bucket None ≡ Some c.in-Some.first =
    sym (c.node.ensures ∙ c.index.ensures ∙ any_head o.items v.bucket _ None (subst (λ z. v.bucket < z) count lt)) ∙ c.in-Some.is in
    let z = c.move_group.new in (
      λ rs b. move_on g.H.KeyHash.keying (λ k. AreBetween a.self o.items (vec_len o) k a.p rs) (λ k. AreBetween z.self z.old.items (vec_len z.old) k z.p rs)
          v.p.now a.p z.p rs a.invariant.5 a.invariant.4 (c.move_group.ensures.moving rs) (c.move_group.ensures.keeps rs) (a.invariant.0 rs b),
      λ j less e.
          let was = a.invariant.1 j less e in
          c.move_group.ensures.others j (λ same. let f : None ≡ Some c.in-Some.first = sym was ∙ ap (λ d. slice_index_or o.items d None) same ∙ at in cc) ∙ was,
      c.move_group.ensures.left ∙ a.invariant.2,
      c.move_group.ensures.count ∙ a.invariant.3,
      c.move_group.ensures.slot ∙ a.invariant.4,
      c.move_group.ensures.keys ∙ a.invariant.5,
      λ q. subst (λ t. (link_of z.p q t).tag ≡ (link_of a.p q t).tag) a.invariant.4 (c.move_group.ensures.tags q) ∙ a.invariant.6 q,
    )
