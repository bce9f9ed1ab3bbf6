-- A group goes whole to the front of its new bucket: its links inside stay.
use Rattle.std.proofs.Common.{◌≡◌, ◌<◌, ◌%◌, sym, ap, ◌∙◌, subst, refl, length, vec_len, slice_index_or, slice_set, List, Some, None}
use Rattle.std.specs.Vec.{with_item}
use Rattle.mi_node.specs.Pool.{Pooled, Keeps, IsHeldIf, link_of, node_count}
use Rattle.mi_node.specs.Neighbours.{with_forth_if}
use Rattle.mi_node.specs.Refs.{Ref}
use Rattle.mi_node.specs.declared.link.Link.{Link}
use Rattle.mi_node.proofs.NeighbourLemmas.{tag-forth}
use Rattle.mi_chain.specs.Keying.{hash_node}
use Rattle.mi_chain.specs.Places.{forth_of}
use Rattle.mi_chain.specs.Moves.{AreBetween, hops, next_group}
use Rattle.mi_chain.proofs.MoveLemmas.{group_first, group_back, group_tag, group_room, group_keeps, group_moves, group_fewer}
use Rattle.mi_chain.proofs.chains.Chains.move_group.Given.{Over}
use Rattle.mi_chain.proofs.chains.Chains.move_group.Goals.{After-link-link, After-bucket-target, After-set_forth}
use Rattle.mi_chain.proofs.chains.Chains.move_group.Goals as goal

module _ (g : Over) (c : After-link-link g) where
  -- the last node of the group is held
  back_held : IsHeldIf c.args.p.now c.link-link.result.back
  back_held = let v = c.args in let l = v.self.now in let o = v.old.now in subst (λ (y : Link). IsHeldIf v.p.now y.back) (sym c.link-link.ensures)
      (group_back (g.H.KeyHash.keying l.keys) (g.met.H.KeyHash.lawful l.keys) l v.p.now o.items (vec_len o) v.bucket c.requires.bucket v.first
      c.requires.first c.requires.moving.0 c.requires.moving.1)

module _ (g : Over) (c : After-bucket-target g) where
  -- the bucket that the group goes to is that of its hash
  target_found : c.bucket-target.result ≡ hash_node (g.H.KeyHash.keying c.args.self.now.keys) c.args.p.now c.args.first % vec_len c.args.self.now.buckets
  target_found = let v = c.args in let m = v.p.now in let l = v.self.now in let o = v.old.now in let k = (g.H.KeyHash.keying c.args.self.now.keys) in
      c.bucket-target.ensures ∙ ap (λ (y : Link). y.tag.key % vec_len l.buckets) c.link-link.ensures
      ∙ ap (λ z. z % vec_len l.buckets) (group_tag k (g.met.H.KeyHash.lawful c.args.self.now.keys) l m o.items (vec_len o) v.bucket c.requires.bucket v.first
      c.requires.first
      c.requires.moving.0 c.requires.moving.1)

module _ (g : Over) (c : After-set_forth g)
    (target : c.bucket-target.result ≡ hash_node (g.H.KeyHash.keying c.args.self.now.keys) c.args.p.now c.args.first % vec_len c.args.self.now.buckets) where
  bucket_inside : c.args.bucket < length c.args.old.now.items
  bucket_inside = let count : vec_len c.args.old.now ≡ length c.args.old.now.items = c.args.old.now.ok.0 in
      subst (λ z. c.args.bucket < z) count c.requires.bucket

  -- the last node of the group goes on to the first of the chain that stood there
  pool_found : c.set_forth.new.p ≡ with_forth_if c.args.p.now c.args.self.now.slot (link_of c.args.p.now c.args.first.name c.args.self.now.slot).back
      (slice_index_or c.args.self.now.buckets.items
      (hash_node (g.H.KeyHash.keying c.args.self.now.keys) c.args.p.now c.args.first % vec_len c.args.self.now.buckets) None)
  pool_found = c.set_forth.ensures ∙ (λ i. with_forth_if c.args.p.now c.args.self.now.slot (c.link-link.ensures i).back
      ((c.head-head.ensures ∙ ap (λ z. slice_index_or c.args.self.now.buckets.items z None) target) i))

  -- what stood behind the group is the old bucket's first now
  next_found : c.after-next.result ≡ forth_of c.args.p.now c.args.self.now.slot (link_of c.args.p.now c.args.first.name c.args.self.now.slot).back
  next_found = c.after-next.ensures ∙ ap (λ (y : Link). forth_of c.args.p.now c.args.self.now.slot y.back) c.link-link.ensures

  -- what moving the group does, for each list that stands between the old buckets and the new ones
  moved : (rs : List Ref) → AreBetween c.args.self.now c.args.old.now.items (vec_len c.args.old.now) (g.H.KeyHash.keying c.args.self.now.keys) c.args.p.now rs
      → AreBetween (record c.args.self.now { buckets = with_item c.args.self.now.buckets c.bucket-target.result (Some c.args.first) })
      (slice_set c.args.old.now.items c.args.bucket c.after-next.result) (vec_len c.args.old.now)
      (g.H.KeyHash.keying c.args.self.now.keys) c.set_forth.new.p rs
      × Keeps c.args.p.now c.set_forth.new.p c.args.self.now.slot rs
      × (hops (next_group c.set_forth.new.p c.args.self.now.slot) (node_count c.set_forth.new.p)
      (slice_index_or (slice_set c.args.old.now.items c.args.bucket c.after-next.result) c.args.bucket None)
      < hops (next_group c.args.p.now c.args.self.now.slot) (node_count c.args.p.now) (slice_index_or c.args.old.now.items c.args.bucket None))
  moved rs q = let v = c.args in let m = v.p.now in let l = v.self.now in let o = v.old.now in let k = g.H.KeyHash.keying l.keys in
      let w = g.met.H.KeyHash.lawful l.keys in let l2 = record l { buckets = with_item l.buckets c.bucket-target.result (Some v.first) } in
      let items = slice_set o.items v.bucket c.after-next.result in let p = c.set_forth.new.p in let lt = c.requires.bucket in let at = c.requires.first in
      let put = ap (λ z. slice_set l.buckets.items z (Some v.first)) target in let left = ap (slice_set o.items v.bucket) next_found in (
        group_moves k w l l2 m p o.items items (vec_len o) v.bucket lt v.first at bucket_inside refl refl refl pool_found put left rs q,
        group_keeps k w l l2 m p o.items items (vec_len o) v.bucket lt v.first at bucket_inside refl refl refl pool_found put left rs q,
        group_fewer k w l l2 m p o.items items (vec_len o) v.bucket lt v.first at bucket_inside refl refl refl pool_found put left rs q,
      )

pub link-link-requires-clause-held : goal.link-link-requires-clause-held
link-link-requires-clause-held g c = let v = c.args in let l = v.self.now in let o = v.old.now in
    group_first (g.H.KeyHash.keying l.keys) (g.met.H.KeyHash.lawful l.keys) l v.p.now o.items (vec_len o) v.bucket c.requires.bucket v.first c.requires.first
    c.requires.moving.0 c.requires.moving.1

pub link-link-requires-clause-slot : goal.link-link-requires-clause-slot
link-link-requires-clause-slot g c = let a = c.requires.moving.1.1.parted in a.slot

pub after-next-requires-clause-held : goal.after-next-requires-clause-held
after-next-requires-clause-held g c = back_held g (goal.at.after-next-requires-clause-held g c).After-link-link

pub set_forth-requires-clause-held : goal.set_forth-requires-clause-held
set_forth-requires-clause-held g c = back_held g (goal.at.set_forth-requires-clause-held g c).After-link-link

pub bucket-target-requires : goal.bucket-target-requires
bucket-target-requires g c = let a = c.requires.moving.1.1 in a.power

pub head-head-requires : goal.head-head-requires
head-head-requires g c = let v = c.args in let l = v.self.now in let o = v.old.now in
    subst (λ z. z < vec_len l.buckets) (sym (target_found g (goal.at.head-head-requires g c).After-bucket-target))
    (group_room (g.H.KeyHash.keying l.keys) (g.met.H.KeyHash.lawful l.keys) l v.p.now o.items (vec_len o) v.bucket c.requires.bucket v.first c.requires.first
    c.requires.moving.0 c.requires.moving.1)

pub returns-clause-tags : goal.returns-clause-tags
returns-clause-tags g c z = let s = c.args.self.now.slot in
    ap (λ (p : Pooled g.row.T.Denot). (link_of p z s).tag) c.set_forth.ensures ∙ tag-forth s c.args.p.now c.link-link.result.back c.head-head.result z s

pub returns-clause-moving : goal.returns-clause-moving
returns-clause-moving g c rs q = let o = goal.at.returns-clause-moving g c in let v = c.args in let l = v.self.now in
    subst (λ x. AreBetween (record l { buckets = with_item l.buckets c.bucket-target.result x }) (slice_set v.old.now.items v.bucket c.new.result) (vec_len v.old.now)
    (g.H.KeyHash.keying l.keys) c.set_forth.new.p rs) (sym c.new-2.ensures)
    (subst (λ y. AreBetween (record l { buckets = with_item l.buckets c.bucket-target.result (Some v.first) }) (slice_set v.old.now.items v.bucket y) (vec_len v.old.now)
    (g.H.KeyHash.keying l.keys) c.set_forth.new.p rs) (sym c.new.ensures) (moved g o.After-set_forth (target_found g o.After-bucket-target) rs q).0)

pub returns-clause-fewer : goal.returns-clause-fewer
returns-clause-fewer g c rs q = let o = goal.at.returns-clause-fewer g c in let v = c.args in let s = v.self.now.slot in
    subst (λ y. hops (next_group c.set_forth.new.p s) (node_count c.set_forth.new.p) (slice_index_or (slice_set v.old.now.items v.bucket y) v.bucket None)
    < hops (next_group v.p.now s) (node_count v.p.now) (slice_index_or v.old.now.items v.bucket None)) (sym c.new.ensures)
    (moved g o.After-set_forth (target_found g o.After-bucket-target) rs q).2

pub returns-clause-keeps : goal.returns-clause-keeps
returns-clause-keeps g c rs q = let o = goal.at.returns-clause-keeps g c in (moved g o.After-set_forth (target_found g o.After-bucket-target) rs q).1
