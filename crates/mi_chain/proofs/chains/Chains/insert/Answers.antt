-- The node goes into its key's group where its stamp belongs, or as a group of its own to the front of the bucket.
use Rattle.std.proofs.Common.{◌≡◌, ◌<◌, ◌%◌, ◌++◌, ◌==◌, cond, sym, ap, ◌∙◌, subst, refl, vec_len, slice_index_or, List, ◌∷◌, Some, None}
use Rattle.std.specs.Option.{option_or}
use Rattle.mi_node.specs.Pool.{IsHeldIf, Keeps, link_of}
use Rattle.mi_node.specs.Refs.{Ref}
use Rattle.mi_node.specs.declared.link.Link.{Link}
use Rattle.mi_chain.specs.Chained.{AreChained, AreTagged, IsPlaced}
use Rattle.mi_chain.specs.Keying.{same_nodes, stamp_at, hash_node}
use Rattle.mi_chain.specs.Heads.{heads_joined}
use Rattle.mi_chain.specs.Groups.{members, IsChain}
use Rattle.mi_chain.specs.Places.{Found, IsFound, IsCut, IsGap}
use Rattle.mi_chain.proofs.KeyingLemmas.{hash_is}
use Rattle.mi_chain.proofs.CallLemmas.{Group, held_or, group_at, gap_ends, here, groups_at, chain_here}
use Rattle.mi_chain.proofs.CallLemmas.{tags_here, few_groups, none_left, cut_at, spot_of_gap, inserted_new, inserted_old, tags_put}
use Rattle.mi_chain.proofs.chains.Chains.insert.Goals.{After-bucket-bucket, After-head-head, In-Some, After-gap_for-gap, After-begin_group, After-put}
use Rattle.mi_chain.proofs.chains.Chains.insert.Given.{Over}
use Rattle.mi_chain.proofs.chains.Chains.insert.Goals as goal

module _ (g : Over) (c : After-bucket-bucket g) where
  -- the hash is the node's
  hash_found : c.hash-hash.result ≡ hash_node (g.H.KeyHash.keying c.args.self.now.keys) c.args.p.now c.args.node
  hash_found = c.hash-hash.ensures ∙ sym (hash_is (g.H.KeyHash.keying c.args.self.now.keys) c.args.p.now c.args.node c.value.result.now c.value.ensures)

  -- and the bucket is that of the hash
  bucket_found : c.bucket-bucket.result ≡ hash_node (g.H.KeyHash.keying c.args.self.now.keys) c.args.p.now c.args.node % vec_len c.args.self.now.buckets
  bucket_found = c.bucket-bucket.ensures ∙ ap (λ z. z % vec_len c.args.self.now.buckets) hash_found

  bucket_inside : c.bucket-bucket.result < vec_len c.args.self.now.buckets
  bucket_inside = subst (λ i. i < vec_len c.args.self.now.buckets) (sym bucket_found)
      (here c.args.self.now (g.H.KeyHash.keying c.args.self.now.keys) (g.met.H.KeyHash.lawful c.args.self.now.keys) c.args.p.now (c.requires.0 ++ c.requires.1)
      (hash_node (g.H.KeyHash.keying c.args.self.now.keys) c.args.p.now c.args.node) c.requires.2)

-- the chain of that bucket, for a list that the chains stand for
module _ (g : Over) (c : After-head-head g)
    (bucket : c.bucket-bucket.result ≡ hash_node (g.H.KeyHash.keying c.args.self.now.keys) c.args.p.now c.args.node % vec_len c.args.self.now.buckets)
    (rs : List Ref) (h : AreChained c.args.self.now (g.H.KeyHash.keying c.args.self.now.keys) c.args.p.now rs) where
  abbrev groups : List (List Ref)
  groups = groups_at c.args.self.now (g.H.KeyHash.keying c.args.self.now.keys) (g.met.H.KeyHash.lawful c.args.self.now.keys) c.args.p.now rs h
      (hash_node (g.H.KeyHash.keying c.args.self.now.keys) c.args.p.now c.args.node)

  chain_found : IsChain c.args.p.now c.args.self.now.slot c.head-head.result groups
  chain_found = chain_here c.args.self.now (g.H.KeyHash.keying c.args.self.now.keys) (g.met.H.KeyHash.lawful c.args.self.now.keys) c.args.p.now rs h
      (hash_node (g.H.KeyHash.keying c.args.self.now.keys) c.args.p.now c.args.node) c.head-head.result
      (c.head-head.ensures ∙ ap (λ i. slice_index_or c.args.self.now.buckets.items i None) bucket)

  tags_found : AreTagged (hash_node (g.H.KeyHash.keying c.args.self.now.keys) c.args.p.now) c.args.p.now c.args.self.now.slot (members groups)
  tags_found = tags_here c.args.self.now (g.H.KeyHash.keying c.args.self.now.keys) (g.met.H.KeyHash.lawful c.args.self.now.keys) c.args.p.now rs h
      (hash_node (g.H.KeyHash.keying c.args.self.now.keys) c.args.p.now c.args.node)

-- the group of the node's key in it
module _ (g : Over) (c : In-Some g)
    (bucket : c.bucket-bucket.result ≡ hash_node (g.H.KeyHash.keying c.args.self.now.keys) c.args.p.now c.args.node % vec_len c.args.self.now.buckets)
    (rs : List Ref) (h : AreChained c.args.self.now (g.H.KeyHash.keying c.args.self.now.keys) c.args.p.now rs) where
  chain_searched : IsChain c.args.p.now c.args.self.now.slot c.head-head.result
      (groups_at c.args.self.now (g.H.KeyHash.keying c.args.self.now.keys) (g.met.H.KeyHash.lawful c.args.self.now.keys) c.args.p.now rs h
      (hash_node (g.H.KeyHash.keying c.args.self.now.keys) c.args.p.now c.args.node))
  chain_searched = let l = c.args.self.now in let k = g.H.KeyHash.keying l.keys in
      chain_here l k (g.met.H.KeyHash.lawful c.args.self.now.keys) c.args.p.now rs h (hash_node k c.args.p.now c.args.node) c.head-head.result
      (c.head-head.ensures ∙ ap (λ i. slice_index_or l.buckets.items i None) bucket)

  group_found : Found (same_nodes (g.H.KeyHash.keying c.args.self.now.keys) c.args.p.now c.args.node)
      (groups_at c.args.self.now (g.H.KeyHash.keying c.args.self.now.keys) (g.met.H.KeyHash.lawful c.args.self.now.keys) c.args.p.now rs h
      (hash_node (g.H.KeyHash.keying c.args.self.now.keys) c.args.p.now c.args.node)) c.group_of-place.result.before c.in-Some.first
  group_found = let l = c.args.self.now in let k = g.H.KeyHash.keying l.keys in let w = (g.met.H.KeyHash.lawful c.args.self.now.keys) in let m = c.args.p.now in
      subst (IsFound (same_nodes k m c.args.node) (groups_at l k w m rs h (hash_node k m c.args.node)) c.group_of-place.result.before) c.in-Some.is
      (c.group_of-place.ensures _ chain_searched (tags_here l k w m rs h (hash_node k m c.args.node)))

  group_stands : Group c.args.p.now c.args.self.now.slot c.group_of-place.result.before c.in-Some.first group_found.group
  group_stands = let k = (g.H.KeyHash.keying c.args.self.now.keys) in let m = c.args.p.now in
      group_at m c.args.self.now.slot c.head-head.result _ (same_nodes k m c.args.node) c.group_of-place.result.before c.in-Some.first
      chain_searched group_found

-- its nodes with a lower stamp stand first
module _ (g : Over) (c : In-Some g)
    (bucket : c.bucket-bucket.result ≡ hash_node (g.H.KeyHash.keying c.args.self.now.keys) c.args.p.now c.args.node % vec_len c.args.self.now.buckets)
    (xs ys : List Ref) (h : AreChained c.args.self.now (g.H.KeyHash.keying c.args.self.now.keys) c.args.p.now (xs ++ ys))
    (p : IsPlaced (g.H.KeyHash.keying c.args.self.now.keys) c.args.p.now c.args.self.now.slot c.args.node c.args.stamp xs ys) where
  cut_found : IsCut (stamp_at c.args.p.now c.args.self.now.slot) c.args.stamp (group_found g c bucket (xs ++ ys) h).group
  cut_found = cut_at c.args.self.now (g.H.KeyHash.keying c.args.self.now.keys) (g.met.H.KeyHash.lawful c.args.self.now.keys) c.args.p.now
      xs c.args.node ys c.args.stamp h p c.group_of-place.result.before c.in-Some.first (group_found g c bucket (xs ++ ys) h)

-- the gap in the group where the stamp goes
module _ (g : Over) (c : After-gap_for-gap g) (nodes : List Ref)
    (group : Group c.args.p.now c.args.self.now.slot c.group_of-place.result.before c.in-Some.first nodes)
    (cut : IsCut (stamp_at c.args.p.now c.args.self.now.slot) c.args.stamp nodes) where
  gap_found : IsGap (stamp_at c.args.p.now c.args.self.now.slot) c.args.stamp nodes c.gap_for-gap.result.prev c.gap_for-gap.result.next
  gap_found = c.gap_for-gap.ensures nodes group.rest group.linked group.apart group.first_is cut

  ends_held : IsHeldIf c.args.p.now c.gap_for-gap.result.prev × IsHeldIf c.args.p.now c.gap_for-gap.result.next
  ends_held = gap_ends c.args.p.now (stamp_at c.args.p.now c.args.self.now.slot) c.args.stamp nodes c.gap_for-gap.result.prev
      c.gap_for-gap.result.next group.all_held gap_found

pub head-head-requires : goal.head-head-requires
head-head-requires g c = bucket_inside g (goal.at.head-head-requires g c).After-bucket-bucket

pub group_of-place-requires-clause-hash : goal.group_of-place-requires-clause-hash
group_of-place-requires-clause-hash g c = hash_found g (goal.at.group_of-place-requires-clause-hash g c).After-bucket-bucket

pub group_of-place-requires-clause-chain : goal.group_of-place-requires-clause-chain
group_of-place-requires-clause-chain g c =
    let o = goal.at.group_of-place-requires-clause-chain g c in let bucket = bucket_found g o.After-bucket-bucket in let h = c.requires.2 in
    (groups g o.After-head-head bucket _ h, chain_found g o.After-head-head bucket _ h, tags_found g o.After-head-head bucket _ h)

pub begin_group-requires-clause-bucket : goal.begin_group-requires-clause-bucket
begin_group-requires-clause-bucket g c = bucket_inside g (goal.at.begin_group-requires-clause-bucket g c).After-bucket-bucket

pub begin_group-requires-clause-few : goal.begin_group-requires-clause-few
begin_group-requires-clause-few g c = few_groups c.args.self.now _ (g.met.H.KeyHash.lawful c.args.self.now.keys) _ _ c.requires.2

pub gap_for-gap-requires-clause-group : goal.gap_for-gap-requires-clause-group
gap_for-gap-requires-clause-group g c =
    let o = goal.at.gap_for-gap-requires-clause-group g c in let bucket = bucket_found g o.After-bucket-bucket in
    let group = group_stands g o.In-Some bucket _ c.requires.2 in
    ((group_found g o.In-Some bucket _ c.requires.2).group, group.rest, group.linked, group.apart, group.first_is)

pub link-link-requires-clause-held : goal.link-link-requires-clause-held
link-link-requires-clause-held g c =
    let o = goal.at.link-link-requires-clause-held g c in let bucket = bucket_found g o.After-bucket-bucket in
    (group_stands g o.In-Some bucket _ c.requires.2).first_held

pub after-follower-requires-clause-held : goal.after-follower-requires-clause-held
after-follower-requires-clause-held g c =
    let o = goal.at.after-follower-requires-clause-held g c in let bucket = bucket_found g o.After-bucket-bucket in
    (ends_held g o.After-gap_for-gap _ (group_stands g o.In-Some bucket _ c.requires.2)
    (cut_found g o.In-Some bucket c.requires.0 c.requires.1 c.requires.2 c.requires.3)).0

pub put-requires-clause-bucket : goal.put-requires-clause-bucket
put-requires-clause-bucket g c = bucket_inside g (goal.at.put-requires-clause-bucket g c).After-bucket-bucket

pub put-requires-clause-held : goal.put-requires-clause-held
put-requires-clause-held g c =
    let o = goal.at.put-requires-clause-held g c in let bucket = bucket_found g o.After-bucket-bucket in
    let group = group_stands g o.In-Some bucket _ c.requires.2 in
    let m = c.args.p.now in let ends = ends_held g o.After-gap_for-gap _ group (cut_found g o.In-Some bucket c.requires.0 c.requires.1 c.requires.2 c.requires.3) in (
      subst (IsHeldIf m) (sym c.or-left.ensures) (held_or m c.gap_for-gap.result.prev c.group_of-place.result.before ends.0 group.before_held),
      subst
          (IsHeldIf m) (sym c.or-right.ensures) (held_or m c.gap_for-gap.result.next (Some c.in-Some.first) ends.1 group.first_held),
    )

-- the link of the first node of its key
module _ (g : Over) (c : After-begin_group g) where
  abbrev first_link : Link
  first_link = record {
    back = Some c.args.node;
    forth = slice_index_or c.args.self.now.buckets.items c.bucket-bucket.result None;
    size = 0;
    height = 0;
    tag = record { key = c.hash-hash.result; stamp = c.args.stamp };
  }

module _ (g : Over) (c : After-begin_group g) (hash : c.hash-hash.result ≡ hash_node (g.H.KeyHash.keying c.args.self.now.keys) c.args.p.now c.args.node)
    (bucket : c.bucket-bucket.result ≡ hash_node (g.H.KeyHash.keying c.args.self.now.keys) c.args.p.now c.args.node % vec_len c.args.self.now.buckets) where
  -- the first node of its key is there, for each list that the chains may stand for
  begun : (xs ys : List Ref) → AreChained c.args.self.now (g.H.KeyHash.keying c.args.self.now.keys) c.args.p.now (xs ++ ys)
      → IsPlaced (g.H.KeyHash.keying c.args.self.now.keys) c.args.p.now c.args.self.now.slot c.args.node c.args.stamp xs ys
      → AreChained c.begin_group.new.self (g.H.KeyHash.keying c.args.self.now.keys) c.begin_group.new.p (xs ++ c.args.node ∷ ys)
      × Keeps c.args.p.now c.begin_group.new.p c.args.self.now.slot (c.args.node ∷ (xs ++ ys))
  begun xs ys h p = let v = c.args in let m = v.p.now in let l = v.self.now in let k = g.H.KeyHash.keying l.keys in
      let w = g.met.H.KeyHash.lawful l.keys in let n = vec_len l.buckets in let r = v.node in let x = hash_node k m r in
      let chain = chain_here l k w m (xs ++ ys) h x c.head-head.result (c.head-head.ensures ∙ ap (λ i. slice_index_or l.buckets.items i None) bucket) in
      let tags = tags_here l k w m (xs ++ ys) h x in
      let gs = groups_at l k w m (xs ++ ys) h x in
      let on = inserted_new l k w m xs r ys v.stamp (first_link g c) h p refl hash c.begin_group.new.self c.begin_group.new.p c.begin_group.ensures.slot
      c.begin_group.ensures.count
      (none_left l k w m xs r ys h
      (subst (IsFound (same_nodes k m r) gs c.group_of-place.result.before) c.in-None.is (c.group_of-place.ensures gs chain tags))) refl
      (ap (λ i. slice_index_or l.buckets.items i None) bucket) c.begin_group.ensures.pool
      (c.begin_group.ensures.heads ∙ ap (λ i. heads_joined None l.buckets.items i (Some r)) bucket) c.begin_group.ensures.groups in
      (on.0, on.1)

pub returns-in-None-clause-list : goal.returns-in-None-clause-list
returns-in-None-clause-list g c xs ys h p = let o = goal.at.returns-in-None-clause-list g c in let b = o.After-bucket-bucket in
    (begun g o.After-begin_group (hash_found g b) (bucket_found g b) xs ys h p).0

pub returns-in-None-clause-keeps : goal.returns-in-None-clause-keeps
returns-in-None-clause-keeps g c xs ys h p = let o = goal.at.returns-in-None-clause-keeps g c in let b = o.After-bucket-bucket in
    (begun g o.After-begin_group (hash_found g b) (bucket_found g b) xs ys h p).1

pub returns-in-None-clause-tags : goal.returns-in-None-clause-tags
returns-in-None-clause-tags g c q = let v = c.args in let m = v.p.now in let l = v.self.now in let k = g.H.KeyHash.keying l.keys in
    let w = g.met.H.KeyHash.lawful l.keys in let r = v.node in
    let o = goal.at.returns-in-None-clause-tags g c in let hash = hash_found g o.After-bucket-bucket in
    tags_put l k w m r (first_link g o.After-begin_group) None None None None c.begin_group.new.p c.requires.3.held c.begin_group.ensures.pool q
    ∙ ap (λ z. cond (r.name == q) (record { key = z; stamp = v.stamp }) (link_of m q l.slot).tag) hash

module _ (g : Over) (c : After-put g) (hash : c.hash-hash.result ≡ hash_node (g.H.KeyHash.keying c.args.self.now.keys) c.args.p.now c.args.node)
    (bucket : c.bucket-bucket.result ≡ hash_node (g.H.KeyHash.keying c.args.self.now.keys) c.args.p.now c.args.node % vec_len c.args.self.now.buckets) where
  -- a node among those of its key is there, for each list that the chains may stand for
  joined_in : (xs ys : List Ref) (h : AreChained c.args.self.now (g.H.KeyHash.keying c.args.self.now.keys) c.args.p.now (xs ++ ys))
      → IsPlaced (g.H.KeyHash.keying c.args.self.now.keys) c.args.p.now c.args.self.now.slot c.args.node c.args.stamp xs ys
      → (found : Found (same_nodes (g.H.KeyHash.keying c.args.self.now.keys) c.args.p.now c.args.node)
      (groups_at c.args.self.now (g.H.KeyHash.keying c.args.self.now.keys) (g.met.H.KeyHash.lawful c.args.self.now.keys) c.args.p.now (xs ++ ys) h
      (hash_node (g.H.KeyHash.keying c.args.self.now.keys) c.args.p.now c.args.node)) c.group_of-place.result.before c.in-Some.first)
      → IsGap (stamp_at c.args.p.now c.args.self.now.slot) c.args.stamp found.group c.gap_for-gap.result.prev c.gap_for-gap.result.next
      → AreChained c.put.new.self (g.H.KeyHash.keying c.args.self.now.keys) c.put.new.p (xs ++ c.args.node ∷ ys)
      × Keeps c.args.p.now c.put.new.p c.args.self.now.slot (c.args.node ∷ (xs ++ ys))
  joined_in xs ys h p found gap = let v = c.args in let m = v.p.now in let l = v.self.now in let k = g.H.KeyHash.keying l.keys in
      let w = g.met.H.KeyHash.lawful l.keys in let r = v.node in
      let made : Link = record
      { back = c.or-back.result; forth = c.or-forth.result; size = 0; height = 0; tag = record { key = c.hash-hash.result; stamp = v.stamp } } in
      let spot = spot_of_gap l k w m xs r ys v.stamp made h p refl hash c.group_of-place.result.before c.in-Some.first found c.gap_for-gap.result.prev
      c.gap_for-gap.result.next gap in
      let back = c.or-back.ensures ∙ ap (λ (y : Link). option_or c.gap_for-gap.result.prev y.back) c.link-link.ensures in
      let forth = c.or-forth.ensures ∙ ap (λ y. option_or c.gap_for-gap.result.next y) c.after-follower.ensures in
      inserted_old l k w m xs r ys v.stamp made h p refl hash c.put.new.self c.put.new.p c.put.ensures.slot c.put.ensures.count
      c.group_of-place.result.before c.in-Some.first found c.or-left.result c.or-right.result (c.or-left.ensures ∙ spot.0) (c.or-right.ensures ∙ spot.1)
      (back ∙ spot.2) (forth ∙ spot.3) c.put.ensures.pool (c.put.ensures.heads ∙ ap (λ i. heads_joined c.or-left.result l.buckets.items i (Some r)) bucket)
      c.put.ensures.groups

pub returns-in-Some-clause-list : goal.returns-in-Some-clause-list
returns-in-Some-clause-list g c xs ys h p = let o = goal.at.returns-in-Some-clause-list g c in
    let b = o.After-bucket-bucket in let bucket = bucket_found g b in let gap = gap_found g o.After-gap_for-gap _ (group_stands g o.In-Some bucket _ h) (cut_found g o.In-Some bucket xs ys h p) in
    (joined_in g o.After-put (hash_found g b) bucket xs ys h p (group_found g o.In-Some bucket _ h) gap).0

pub returns-in-Some-clause-keeps : goal.returns-in-Some-clause-keeps
returns-in-Some-clause-keeps g c xs ys h p = let o = goal.at.returns-in-Some-clause-keeps g c in
    let b = o.After-bucket-bucket in let bucket = bucket_found g b in let gap = gap_found g o.After-gap_for-gap _ (group_stands g o.In-Some bucket _ h) (cut_found g o.In-Some bucket xs ys h p) in
    (joined_in g o.After-put (hash_found g b) bucket xs ys h p (group_found g o.In-Some bucket _ h) gap).1

pub returns-in-Some-clause-tags : goal.returns-in-Some-clause-tags
returns-in-Some-clause-tags g c q = let v = c.args in let m = v.p.now in let l = v.self.now in let k = g.H.KeyHash.keying l.keys in
    let w = g.met.H.KeyHash.lawful l.keys in let r = v.node in
    let hash = hash_found g (goal.at.returns-in-Some-clause-tags g c).After-bucket-bucket in
    tags_put l k w m r _ c.or-left.result c.or-right.result (Some r) (Some r) c.put.new.p c.requires.3.held c.put.ensures.pool q
    ∙ ap (λ z. cond (r.name == q) (record { key = z; stamp = v.stamp }) (link_of m q l.slot).tag) hash
