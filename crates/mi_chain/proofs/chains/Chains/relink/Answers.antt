-- The node goes between the neighbours that it remembers, or to the end of its group, or as a group of its own.
use Rattle.std.proofs.Common.{◌≡◌, ◌<◌, ◌%◌, ◌++◌, sym, ap, ◌∙◌, subst, refl, vec_len, slice_index_or, List, ◌∷◌, Option, Some, None}
use Rattle.std.specs.Option.{option_or}
use Rattle.mi_node.specs.Pool.{Keeps}
use Rattle.mi_node.specs.Refs.{Ref}
use Rattle.mi_node.specs.declared.link.Link.{Link}
use Rattle.mi_chain.specs.Chained.{AreChained, FitsBetween}
use Rattle.mi_chain.specs.Groups.{IsChain}
use Rattle.mi_chain.specs.Keying.{hash_node}
use Rattle.mi_chain.specs.Heads.{heads_joined}
use Rattle.mi_chain.proofs.CallLemmas.{here, groups_at, chain_here, few_groups, sides_held, none_beside}
use Rattle.mi_chain.proofs.CallLemmas.{room_for, Room, room_holds, inserted_new, inserted_old, tags_put}
use Rattle.mi_chain.proofs.chains.Chains.relink.Goals.{After-bucket-bucket, After-or-forth, After-begin_group, After-put}
use Rattle.mi_chain.proofs.chains.Chains.relink.Given.{Over}
use Rattle.mi_chain.proofs.chains.Chains.relink.Goals as goal

module _ (g : Over) (c : After-bucket-bucket g) where
  -- the bucket is that of the node's hash
  bucket_found : c.bucket-bucket.result ≡ hash_node (g.H.KeyHash.keying c.args.self.now.keys) c.args.p.now c.args.node % vec_len c.args.self.now.buckets
  bucket_found = c.bucket-bucket.ensures ∙ ap (λ z. z % vec_len c.args.self.now.buckets) c.requires.3.hash_is

  bucket_inside : c.bucket-bucket.result < vec_len c.args.self.now.buckets
  bucket_inside = subst (λ i. i < vec_len c.args.self.now.buckets) (sym bucket_found)
      (here c.args.self.now (g.H.KeyHash.keying c.args.self.now.keys) (g.met.H.KeyHash.lawful c.args.self.now.keys) c.args.p.now (c.requires.0 ++ c.requires.1)
      (hash_node (g.H.KeyHash.keying c.args.self.now.keys) c.args.p.now c.args.node) c.requires.2)

  -- and its chain is there
  chain_found : IsChain c.args.p.now c.args.self.now.slot (slice_index_or c.args.self.now.buckets.items c.bucket-bucket.result None)
      (groups_at c.args.self.now (g.H.KeyHash.keying c.args.self.now.keys) (g.met.H.KeyHash.lawful c.args.self.now.keys) c.args.p.now
      (c.requires.0 ++ c.requires.1) c.requires.2
      (hash_node (g.H.KeyHash.keying c.args.self.now.keys) c.args.p.now c.args.node))
  chain_found = chain_here c.args.self.now (g.H.KeyHash.keying c.args.self.now.keys) (g.met.H.KeyHash.lawful c.args.self.now.keys) c.args.p.now
      (c.requires.0 ++ c.requires.1) c.requires.2
      (hash_node (g.H.KeyHash.keying c.args.self.now.keys) c.args.p.now c.args.node) (slice_index_or c.args.self.now.buckets.items c.bucket-bucket.result None)
      (ap (λ i. slice_index_or c.args.self.now.buckets.items i None) bucket_found)

-- where the node stands in that chain, between the two that it was remembered with
module _ (g : Over) (c : After-or-forth g)
    (bucket : c.bucket-bucket.result ≡ hash_node (g.H.KeyHash.keying c.args.self.now.keys) c.args.p.now c.args.node % vec_len c.args.self.now.buckets)
    (xs ys : List Ref) (h : AreChained c.args.self.now (g.H.KeyHash.keying c.args.self.now.keys) c.args.p.now (xs ++ ys))
    (q : FitsBetween (g.H.KeyHash.keying c.args.self.now.keys) c.args.p.now c.args.self.now.slot c.args.node c.args.remembered xs ys) where
  room_found : Room c.args.self.now (g.H.KeyHash.keying c.args.self.now.keys) (g.met.H.KeyHash.lawful c.args.self.now.keys) c.args.p.now xs c.args.node ys
      c.args.remembered h q
      c.or-left.result c.or-right.result c.or-back.result c.or-forth.result
  room_found = let v = c.args in let m = v.p.now in let l = v.self.now in let k = g.H.KeyHash.keying l.keys in let w = g.met.H.KeyHash.lawful l.keys in
      let r = v.node in let y = v.remembered in
      let chain = chain_here l k w m (xs ++ ys) h (hash_node k m r) (slice_index_or l.buckets.items c.bucket-bucket.result None)
      (ap (λ i. slice_index_or l.buckets.items i None) bucket) in
      let found = room_for l k w m xs r ys y h q c.place_at-place.result.before c.place_at-place.result.first c.end-end.result
      (sym c.is_empty.ensures ∙ c.if-is_empty.false) c.end-end.ensures (λ z i e. c.place_at-place.ensures _ z chain i e) in
      let forth = c.or-forth.ensures ∙ ap (option_or y.forth) c.after-follower.ensures in
      subst (λ (z : Option Ref × Option Ref × Option Ref × Option Ref). Room l k w m xs r ys y h q z.0 z.1 z.2 z.3)
      (λ i. (sym c.or-left.ensures i, sym c.or-right.ensures i, sym c.or-back.ensures i, sym forth i)) found

pub begin_group-requires-clause-bucket : goal.begin_group-requires-clause-bucket
begin_group-requires-clause-bucket g c = bucket_inside g (goal.at.begin_group-requires-clause-bucket g c).After-bucket-bucket

pub begin_group-requires-clause-few : goal.begin_group-requires-clause-few
begin_group-requires-clause-few g c = few_groups c.args.self.now _ (g.met.H.KeyHash.lawful c.args.self.now.keys) _ _ c.requires.2

pub end-end-requires-clause-held : goal.end-end-requires-clause-held
end-end-requires-clause-held g c = let l = c.args.self.now in
    (sides_held l (g.H.KeyHash.keying l.keys) (g.met.H.KeyHash.lawful l.keys) c.args.p.now c.requires.0 c.args.node c.requires.1 c.args.remembered c.requires.2
    c.requires.3).1

pub place_at-place-requires-clause-bucket : goal.place_at-place-requires-clause-bucket
place_at-place-requires-clause-bucket g c = bucket_inside g (goal.at.place_at-place-requires-clause-bucket g c).After-bucket-bucket

pub place_at-place-requires-clause-chain : goal.place_at-place-requires-clause-chain
place_at-place-requires-clause-chain g c = (_, chain_found g (goal.at.place_at-place-requires-clause-chain g c).After-bucket-bucket)

pub after-follower-requires-clause-held : goal.after-follower-requires-clause-held
after-follower-requires-clause-held g c = let l = c.args.self.now in
    (sides_held l (g.H.KeyHash.keying l.keys) (g.met.H.KeyHash.lawful l.keys) c.args.p.now c.requires.0 c.args.node c.requires.1 c.args.remembered c.requires.2
    c.requires.3).0

pub put-requires-clause-bucket : goal.put-requires-clause-bucket
put-requires-clause-bucket g c = bucket_inside g (goal.at.put-requires-clause-bucket g c).After-bucket-bucket

pub put-requires-clause-held : goal.put-requires-clause-held
put-requires-clause-held g c = let l = c.args.self.now in let o = goal.at.put-requires-clause-held g c in
    room_holds l (g.H.KeyHash.keying l.keys) (g.met.H.KeyHash.lawful l.keys) c.args.p.now c.requires.0 c.args.node c.requires.1 c.args.remembered c.requires.2
    c.requires.3 c.or-left.result c.or-right.result c.or-back.result c.or-forth.result
    (room_found g o.After-or-forth (bucket_found g o.After-bucket-bucket) c.requires.0 c.requires.1 c.requires.2 c.requires.3)

module _ (g : Over) (c : After-begin_group g) where
  -- the first node of its key is there, for each list that the chains may stand for
  begun : (xs ys : List Ref) → AreChained c.args.self.now (g.H.KeyHash.keying c.args.self.now.keys) c.args.p.now (xs ++ ys)
      → FitsBetween (g.H.KeyHash.keying c.args.self.now.keys) c.args.p.now c.args.self.now.slot c.args.node c.args.remembered xs ys
      → AreChained c.begin_group.new.self (g.H.KeyHash.keying c.args.self.now.keys) c.begin_group.new.p (xs ++ c.args.node ∷ ys)
      × Keeps c.args.p.now c.begin_group.new.p c.args.self.now.slot (c.args.node ∷ (xs ++ ys))
  begun xs ys h q0 = let v = c.args in let m = v.p.now in let l = v.self.now in let k = g.H.KeyHash.keying l.keys in
      let w = g.met.H.KeyHash.lawful l.keys in let n = vec_len l.buckets in let r = v.node in let x = hash_node k m r in let y = v.remembered in
      let q = q0 in
      let eb : c.bucket-bucket.result ≡ x % n = c.bucket-bucket.ensures ∙ ap (λ z. z % n) q.hash_is in
      let made : Link = record { back = Some r; forth = slice_index_or l.buckets.items c.bucket-bucket.result None; size = 0; height = 0; tag = y.tag } in
      let on = inserted_new l k w m xs r ys y.tag.stamp made h q.placed refl q.hash_is c.begin_group.new.self c.begin_group.new.p c.begin_group.ensures.slot
      c.begin_group.ensures.count
      (none_beside l k w m xs r ys y h q (sym c.is_empty.ensures ∙ c.if-is_empty.true)) refl (ap (λ i. slice_index_or l.buckets.items i None) eb)
      c.begin_group.ensures.pool
      (c.begin_group.ensures.heads ∙ ap (λ i. heads_joined None l.buckets.items i (Some r)) eb) c.begin_group.ensures.groups in
      (on.0, on.1)

pub returns-then-is_empty-clause-list : goal.returns-then-is_empty-clause-list
returns-then-is_empty-clause-list g c xs ys h q0 = let on = begun g (goal.at.returns-then-is_empty-clause-list g c).After-begin_group xs ys h q0 in on.0

pub returns-then-is_empty-clause-keeps : goal.returns-then-is_empty-clause-keeps
returns-then-is_empty-clause-keeps g c xs ys h q0 = let on = begun g (goal.at.returns-then-is_empty-clause-keeps g c).After-begin_group xs ys h q0 in on.1

pub returns-then-is_empty-clause-tags : goal.returns-then-is_empty-clause-tags
returns-then-is_empty-clause-tags g c q = let v = c.args in let m = v.p.now in let l = v.self.now in let r = v.node in let p = c.requires.3.placed in
    tags_put l (g.H.KeyHash.keying l.keys) (g.met.H.KeyHash.lawful l.keys) m r
    (record { back = Some r; forth = slice_index_or l.buckets.items c.bucket-bucket.result None; size = 0; height = 0; tag = v.remembered.tag }) None None None
    None c.begin_group.new.p p.held c.begin_group.ensures.pool q

module _ (g : Over) (c : After-put g)
    (bucket : c.bucket-bucket.result ≡ hash_node (g.H.KeyHash.keying c.args.self.now.keys) c.args.p.now c.args.node % vec_len c.args.self.now.buckets) where
  -- a node among those of its key is there, for each list that the chains may stand for
  joined_in : (xs ys : List Ref) (h : AreChained c.args.self.now (g.H.KeyHash.keying c.args.self.now.keys) c.args.p.now (xs ++ ys))
      (q : FitsBetween (g.H.KeyHash.keying c.args.self.now.keys) c.args.p.now c.args.self.now.slot c.args.node c.args.remembered xs ys)
      → Room c.args.self.now (g.H.KeyHash.keying c.args.self.now.keys) (g.met.H.KeyHash.lawful c.args.self.now.keys) c.args.p.now xs c.args.node ys
      c.args.remembered h q
      c.or-left.result c.or-right.result c.or-back.result c.or-forth.result
      → AreChained c.put.new.self (g.H.KeyHash.keying c.args.self.now.keys) c.put.new.p (xs ++ c.args.node ∷ ys)
      × Keeps c.args.p.now c.put.new.p c.args.self.now.slot (c.args.node ∷ (xs ++ ys))
  joined_in xs ys h q there = let v = c.args in let m = v.p.now in let l = v.self.now in let k = g.H.KeyHash.keying l.keys in
      let w = g.met.H.KeyHash.lawful l.keys in let r = v.node in let y = v.remembered in
      let made : Link = record { back = c.or-back.result; forth = c.or-forth.result; size = 0; height = 0; tag = y.tag } in
      inserted_old l k w m xs r ys y.tag.stamp made h q.placed refl q.hash_is c.put.new.self c.put.new.p c.put.ensures.slot c.put.ensures.count
      there.bef there.first there.found c.or-left.result c.or-right.result there.left_is there.right_is
      there.back_is there.forth_is c.put.ensures.pool (c.put.ensures.heads ∙ ap (λ i. heads_joined c.or-left.result l.buckets.items i (Some r)) bucket)
      c.put.ensures.groups

pub returns-clause-list : goal.returns-clause-list
returns-clause-list g c xs ys h q = let o = goal.at.returns-clause-list g c in let bucket = bucket_found g o.After-bucket-bucket in
    (joined_in g o.After-put bucket xs ys h q (room_found g o.After-or-forth bucket xs ys h q)).0

pub returns-clause-keeps : goal.returns-clause-keeps
returns-clause-keeps g c xs ys h q = let o = goal.at.returns-clause-keeps g c in let bucket = bucket_found g o.After-bucket-bucket in
    (joined_in g o.After-put bucket xs ys h q (room_found g o.After-or-forth bucket xs ys h q)).1

pub returns-clause-tags : goal.returns-clause-tags
returns-clause-tags g c q = let v = c.args in let m = v.p.now in let l = v.self.now in let r = v.node in let p = c.requires.3.placed in
    tags_put l (g.H.KeyHash.keying l.keys) (g.met.H.KeyHash.lawful l.keys) m r _ c.or-left.result c.or-right.result
    (Some r) (Some r) c.put.new.p p.held c.put.ensures.pool q
