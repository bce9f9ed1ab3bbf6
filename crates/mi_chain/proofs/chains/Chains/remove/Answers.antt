-- The nodes on both sides are joined, or the group's ends are set anew, or the group is gone.
use Rattle.std.proofs.Common.{◌≡◌, ℕ, ◌<◌, ◌-◌, ◌%◌, ◌++◌, ◌∷◌, cond, sym, ap, ◌∙◌, subst, vec_len, slice_index_or, List, Option, None}
use Rattle.std.specs.Option.{option_or}
use Rattle.mi_node.specs.Pool.{Pooled, Keeps, ref_of, link_of, with_link}
use Rattle.mi_node.specs.Neighbours.{joined}
use Rattle.mi_node.specs.Refs.{Ref}
use Rattle.mi_node.specs.declared.link.Link.{Link}
use Rattle.mi_node.proofs.NeighbourLemmas.{ref-joined, slots-joined}
use Rattle.mi_chain.specs.Chained.{AreChained, FitsBetween}
use Rattle.mi_chain.specs.Groups.{IsChain}
use Rattle.mi_chain.specs.Keying.{hash_node}
use Rattle.mi_chain.specs.Heads.{heads_joined}
use Rattle.mi_chain.specs.Places.{end_at, is_empty}
use Rattle.mi_chain.proofs.CallLemmas.{here, groups_at, chain_here, held_it, tag_is, spot, Spot, spot_holds, some_groups, removed}
use Rattle.mi_chain.proofs.chains.Chains.remove.Goals.{After-bucket-bucket, After-or-right, After-groups_left-self}
use Rattle.mi_chain.proofs.chains.Chains.remove.Given.{Over}
use Rattle.mi_chain.proofs.chains.Chains.remove.Goals as goal

module _ (g : Over) (c : After-bucket-bucket g) where
  -- the bucket is that of the node's hash
  bucket_found : c.bucket-bucket.result ≡ hash_node (g.H.KeyHash.keying c.args.self.now.keys) c.args.p.now c.args.node % vec_len c.args.self.now.buckets
  bucket_found = let l = c.args.self.now in c.bucket-bucket.ensures ∙ ap (λ z. z % vec_len l.buckets) (ap (λ (y : Link). y.tag.key) c.link-link.ensures
      ∙ tag_is l (g.H.KeyHash.keying l.keys) (g.met.H.KeyHash.lawful l.keys) c.args.p.now c.requires.0 c.args.node c.requires.1 c.requires.2)

  bucket_inside : c.bucket-bucket.result < vec_len c.args.self.now.buckets
  bucket_inside = let l = c.args.self.now in let k = g.H.KeyHash.keying l.keys in subst (λ i. i < vec_len l.buckets) (sym bucket_found)
      (here l k (g.met.H.KeyHash.lawful l.keys) c.args.p.now (c.requires.0 ++ c.args.node ∷ c.requires.1) (hash_node k c.args.p.now c.args.node) c.requires.2)

  -- and its chain is there, for a list that the chains stand for
  chain_found : (rs : List Ref) (h : AreChained c.args.self.now (g.H.KeyHash.keying c.args.self.now.keys) c.args.p.now rs)
      → IsChain c.args.p.now c.args.self.now.slot (slice_index_or c.args.self.now.buckets.items c.bucket-bucket.result None)
      (groups_at c.args.self.now (g.H.KeyHash.keying c.args.self.now.keys) (g.met.H.KeyHash.lawful c.args.self.now.keys) c.args.p.now rs h
      (hash_node (g.H.KeyHash.keying c.args.self.now.keys) c.args.p.now c.args.node))
  chain_found rs h = let l = c.args.self.now in let k = g.H.KeyHash.keying l.keys in let x = hash_node k c.args.p.now c.args.node in
      chain_here l k (g.met.H.KeyHash.lawful l.keys) c.args.p.now rs h x (slice_index_or l.buckets.items c.bucket-bucket.result None)
      (ap (λ i. slice_index_or l.buckets.items i None) bucket_found)

-- where the node stands in that chain
module _ (g : Over) (c : After-or-right g) (xs ys : List Ref)
    (h : AreChained c.args.self.now (g.H.KeyHash.keying c.args.self.now.keys) c.args.p.now (xs ++ c.args.node ∷ ys))
    (chain : IsChain c.args.p.now c.args.self.now.slot (slice_index_or c.args.self.now.buckets.items c.bucket-bucket.result None)
    (groups_at c.args.self.now (g.H.KeyHash.keying c.args.self.now.keys) (g.met.H.KeyHash.lawful c.args.self.now.keys) c.args.p.now
    (xs ++ c.args.node ∷ ys) h (hash_node (g.H.KeyHash.keying c.args.self.now.keys) c.args.p.now c.args.node))) where
  spot_found : Spot c.args.self.now (g.H.KeyHash.keying c.args.self.now.keys) (g.met.H.KeyHash.lawful c.args.self.now.keys) c.args.p.now xs c.args.node ys h
      c.or-left.result c.or-right.result
  spot_found = let v = c.args in let m = v.p.now in let l = v.self.now in let k = g.H.KeyHash.keying l.keys in let w = g.met.H.KeyHash.lawful l.keys in
      let r = v.node in let prev = c.prev_of-prev.result in let next = c.next_of-next.result in
      let found = spot l k w m xs r ys h prev next c.place_at-place.result.before c.place_at-place.result.first
      (c.prev_of-prev.ensures xs ys h) (c.next_of-next.ensures xs ys h)
      (λ z i e. c.place_at-place.ensures _ z chain i (c.end_at-end.ensures ∙ ap (λ (y : Link). end_at r y.back next) c.link-link.ensures ∙ e)) in
      let right = c.or-right.ensures ∙ ap (option_or next) c.other-first.ensures in
      subst (λ (z : Option Ref × Option Ref). Spot l k w m xs r ys h z.0 z.1) (λ i. (sym c.or-left.ensures i, sym right i)) found

pub link-link-requires-clause-held : goal.link-link-requires-clause-held
link-link-requires-clause-held g c = let l = c.args.self.now in held_it l (g.H.KeyHash.keying l.keys) (g.met.H.KeyHash.lawful l.keys) c.args.p.now c.requires.0
    c.args.node c.requires.1 c.requires.2

pub link-link-requires-clause-slot : goal.link-link-requires-clause-slot
link-link-requires-clause-slot g c = let b = c.requires.2.buckets in b.slot

pub bucket-bucket-requires : goal.bucket-bucket-requires
bucket-bucket-requires g c = c.requires.2.power

pub place_at-place-requires-clause-bucket : goal.place_at-place-requires-clause-bucket
place_at-place-requires-clause-bucket g c = bucket_inside g (goal.at.place_at-place-requires-clause-bucket g c).After-bucket-bucket

pub place_at-place-requires-clause-slot : goal.place_at-place-requires-clause-slot
place_at-place-requires-clause-slot g c = let b = c.requires.2.buckets in b.slot

pub place_at-place-requires-clause-chain : goal.place_at-place-requires-clause-chain
place_at-place-requires-clause-chain g c = (_, chain_found g (goal.at.place_at-place-requires-clause-chain g c).After-bucket-bucket _ c.requires.2)

pub join-requires-clause-held : goal.join-requires-clause-held
join-requires-clause-held g c = let l = c.args.self.now in let o = goal.at.join-requires-clause-held g c in
    spot_holds l (g.H.KeyHash.keying l.keys) (g.met.H.KeyHash.lawful l.keys) c.args.p.now c.requires.0 c.args.node c.requires.1 c.requires.2 c.or-left.result
    c.or-right.result (spot_found g o.After-or-right c.requires.0 c.requires.1 c.requires.2 (chain_found g o.After-bucket-bucket _ c.requires.2))

pub join-requires-clause-slot : goal.join-requires-clause-slot
join-requires-clause-slot g c = let b = c.requires.2.buckets in b.slot

pub join-requires-clause-bucket : goal.join-requires-clause-bucket
join-requires-clause-bucket g c = bucket_inside g (goal.at.join-requires-clause-bucket g c).After-bucket-bucket

pub set_link-requires-clause-held : goal.set_link-requires-clause-held
set_link-requires-clause-held g c = let l = c.args.self.now in let m = c.args.p.now in let r = c.args.node in
    ap (λ (z : Pooled g.row.T.Denot). ref_of z r.name) c.join.ensures.pool ∙ ref-joined l.slot m c.or-left.result c.link-link.result.forth c.or-right.result
    c.link-link.result.back r.name ∙ held_it l (g.H.KeyHash.keying l.keys) (g.met.H.KeyHash.lawful l.keys) m c.requires.0 r c.requires.1 c.requires.2

pub set_link-requires-clause-slot : goal.set_link-requires-clause-slot
set_link-requires-clause-slot g c = let l = c.args.self.now in let m = c.args.p.now in let b = c.requires.2.buckets in
    subst (λ (z : ℕ × ℕ). z.0 < z.1)
    (λ i. (
      sym c.join.ensures.slot i,
      sym
          (ap (λ (z : Pooled g.row.T.Denot). z.slots) c.join.ensures.pool ∙ slots-joined l.slot m c.or-left.result c.link-link.result.forth c.or-right.result
          c.link-link.result.back) i,
    )) b.slot

pub groups_left-self-requires : goal.groups_left-self-requires
groups_left-self-requires g c = let l = c.args.self.now in subst (λ z. 0 < z) (sym c.join.ensures.groups)
    (some_groups l (g.H.KeyHash.keying l.keys) (g.met.H.KeyHash.lawful l.keys) c.args.p.now c.requires.0 c.args.node c.requires.1 c.requires.2)

module _ (g : Over) (c : After-groups_left-self g)
    (bucket : c.bucket-bucket.result ≡ hash_node (g.H.KeyHash.keying c.args.self.now.keys) c.args.p.now c.args.node % vec_len c.args.self.now.buckets) where
  -- what was done, for each list that the chains may stand for
  done : (xs ys : List Ref) (h : AreChained c.args.self.now (g.H.KeyHash.keying c.args.self.now.keys) c.args.p.now (xs ++ c.args.node ∷ ys))
      → Spot c.args.self.now (g.H.KeyHash.keying c.args.self.now.keys) (g.met.H.KeyHash.lawful c.args.self.now.keys) c.args.p.now xs c.args.node ys h
      c.or-left.result c.or-right.result
      → AreChained (record c.join.new.self { groups = c.groups_left-self.result }) (g.H.KeyHash.keying c.args.self.now.keys) c.set_link.new.self (xs ++ ys)
      × Keeps c.args.p.now c.set_link.new.self c.args.self.now.slot (xs ++ c.args.node ∷ ys)
      × FitsBetween (g.H.KeyHash.keying c.args.self.now.keys) c.set_link.new.self c.args.self.now.slot c.args.node
      (link_of c.set_link.new.self c.args.node.name c.args.self.now.slot) xs ys
      × ((q : ℕ) → (link_of c.set_link.new.self q c.args.self.now.slot).tag ≡ (link_of c.args.p.now q c.args.self.now.slot).tag)
  done xs ys h there = let v = c.args in let m = v.p.now in let l = v.self.now in let k = g.H.KeyHash.keying l.keys in
      let w = g.met.H.KeyHash.lawful l.keys in let r = v.node in let prev = c.prev_of-prev.result in let next = c.next_of-next.result in
      let made : Link = record { back = prev; forth = next; size = 0; height = 0; tag = c.link-link.result.tag } in
      removed l k w m xs r ys h (record c.join.new.self { groups = c.groups_left-self.result }) c.join.new.p c.set_link.new.self made c.or-left.result
      c.or-right.result c.join.ensures.slot c.join.ensures.count there
      (c.join.ensures.pool ∙ (λ i. joined m l.slot c.or-left.result (c.link-link.ensures i).forth c.or-right.result (c.link-link.ensures i).back))
      (c.join.ensures.heads ∙ (λ i. heads_joined c.or-left.result l.buckets.items (bucket i) (c.link-link.ensures i).forth))
      (c.set_link.ensures ∙ ap (λ t. with_link c.join.new.p r.name t made) c.join.ensures.slot) (ap (λ (y : Link). y.tag) c.link-link.ensures)
      (c.prev_of-prev.ensures xs ys h) (c.next_of-next.ensures xs ys h)
      (c.groups_left-self.ensures ∙ ap (λ z. cond (is_empty prev next) (z - 1) z) c.join.ensures.groups)

pub returns-clause-list : goal.returns-clause-list
returns-clause-list g c xs ys h = let o = goal.at.returns-clause-list g c in let b = o.After-bucket-bucket in
    (done g o.After-groups_left-self (bucket_found g b) xs ys h (spot_found g o.After-or-right xs ys h (chain_found g b _ h))).0

pub returns-clause-keeps : goal.returns-clause-keeps
returns-clause-keeps g c xs ys h = let o = goal.at.returns-clause-keeps g c in let b = o.After-bucket-bucket in
    (done g o.After-groups_left-self (bucket_found g b) xs ys h (spot_found g o.After-or-right xs ys h (chain_found g b _ h))).1

pub returns-clause-remembers : goal.returns-clause-remembers
returns-clause-remembers g c xs ys h = let o = goal.at.returns-clause-remembers g c in let b = o.After-bucket-bucket in
    (done g o.After-groups_left-self (bucket_found g b) xs ys h (spot_found g o.After-or-right xs ys h (chain_found g b _ h))).2

pub returns-clause-tags : goal.returns-clause-tags
returns-clause-tags g c = let o = goal.at.returns-clause-tags g c in let b = o.After-bucket-bucket in
    (done g o.After-groups_left-self (bucket_found g b) _ _ c.requires.2 (spot_found g o.After-or-right _ _ c.requires.2 (chain_found g b _ c.requires.2))).3
