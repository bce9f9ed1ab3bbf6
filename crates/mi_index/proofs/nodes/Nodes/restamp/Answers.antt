-- The node leaves the indexes that are marked, but for those in which it keeps its place, gets its tags, and comes into them again by
-- the other stamp.
use Rattle.std.proofs.Common.{◌≡◌, ℕ, Bool, List, ◌∙◌, [], Some, refl, sym, subst}
use Rattle.mi_node.specs.Pool.{Pooled, value_of}
use Rattle.mi_node.specs.Refs.{Ref}
use Rattle.mi_order.specs.declared.stored.Stored.{Stored}
use Rattle.mi_index.specs.Keeping.{AreRetagged, retags}
use Rattle.mi_index.specs.declared.structure.Structure.{Structure}
use Rattle.mi_index.specs.Pass.{AllCan, AreReady}
use Rattle.mi_index.specs.Places.{mark_at}
use Rattle.mi_index.specs.Rekeying.{rekeying, rekeyed, IsRekeyed}
use Rattle.mi_index.proofs.InsertLemmas.{like_both}
use Rattle.mi_index.proofs.OtherNodeLemmas.{IsExchanged}
use Rattle.mi_index.proofs.RekeyLemmas.{asked, leaves, stamps, are_there, are_asked, can_keep, can_leave, can_come, is_rekeyed}
use Rattle.mi_index.proofs.RekeyLemmas.{kept_refs, kept_values, kept_placed, retagged_alone}
use Rattle.mi_index.proofs.nodes.Nodes.restamp.Goals.{After-find_kept-kept, After-retag}
use Rattle.mi_index.proofs.nodes.Nodes.restamp.Goals as goal

same_value : (v w : Stored) → Some v ≡ Some w → v ≡ w
same_value v w e = cc

-- what is wanted of the value that the node has is wanted of the one that is read
is_ready : (marks : List Bool) (r : Ref) (t : ℕ) (xs : List Structure) (m : Pooled Stored) (w : Stored) → value_of m r.name ≡ Some w
    → (v : Stored) × (value_of m r.name ≡ Some v) × AreReady (rekeying marks r v t) 0 xs m → AreReady (rekeying marks r w t) 0 xs m
is_ready marks r t xs m w is p = subst (λ q. AreReady (rekeying marks r q t) 0 xs m) (same_value p.0 w (sym p.1 ∙ is)) p.2

module _ (c : After-find_kept-kept) where
  -- what is asked, and that the flags are right
  is_asked : AreReady (asked (mark_at c.args.marks.now) c.find_kept-kept.result c.args.node c.value-stored.result.now c.args.stamp) 0 c.args.self.now.structures.items c.args.self.now.pool
  is_asked = are_asked (mark_at c.args.marks.now) c.find_kept-kept.result c.args.node c.value-stored.result.now c.args.stamp c.args.self.now.structures.items c.args.self.now.pool
      c.find_kept-kept.ensures (is_ready c.args.marks.now c.args.node c.args.stamp c.args.self.now.structures.items c.args.self.now.pool c.value-stored.result.now
      c.value-stored.ensures c.requires.places)

  may_leave : AreReady (leaves (mark_at c.args.marks.now) c.find_kept-kept.result c.args.node c.value-stored.result.now c.args.stamp) 0 c.args.self.now.structures.items c.args.self.now.pool
  may_leave = can_leave (mark_at c.args.marks.now) c.find_kept-kept.result c.args.node c.value-stored.result.now c.args.stamp c.args.self.now.structures.items c.args.self.now.pool is_asked

module _ (c : After-retag)
    (ready : AreReady (leaves (mark_at c.args.marks.now) c.find_kept-kept.result c.args.node c.value-stored.result.now c.args.stamp) 0 c.args.self.now.structures.items c.args.self.now.pool) where
  still_value : value_of c.unlink.new.p c.args.node.name ≡ Some c.value-stored.result.now
  still_value = kept_values ready c.unlink.ensures.pass c.args.node.name ∙ c.value-stored.ensures

  -- the node has its value, and the tags of that
  has_changed : IsExchanged c.args.node c.value-stored.result.now c.unlink.new.p c.retag.new.p
  has_changed = retagged_alone c.unlink.new.p c.retag.new.p c.args.node c.value-stored.result.now still_value c.retag.ensures.but

  has_tags : AreRetagged (retags c.find_kept-kept.result (stamps (mark_at c.args.marks.now) c.find_kept-kept.result c.args.node c.value-stored.result.now c.args.stamp))
      c.args.node c.value-stored.result.now c.unlink.new.self.items 0 c.unlink.new.p c.retag.new.p
  has_tags = c.retag.ensures.own c.value-stored.result.now still_value

pub find_kept-kept-requires : goal.find_kept-kept-requires
find_kept-kept-requires c =
    are_there (mark_at c.args.marks.now) [] c.args.node c.value-stored.result.now c.args.stamp c.args.self.now.structures.items c.args.self.now.pool (is_ready c.args.marks.now c.args.node c.args.stamp c.args.self.now.structures.items c.args.self.now.pool c.value-stored.result.now
    c.value-stored.ensures c.requires.places)

pub unlink-requires : goal.unlink-requires
unlink-requires c = may_leave (goal.at.unlink-requires c).After-find_kept-kept

pub retag-requires-clause-held : goal.retag-requires-clause-held
retag-requires-clause-held c =
    let o = goal.at.retag-requires-clause-held c in
    kept_refs (may_leave o.After-find_kept-kept) c.unlink.ensures.pass c.args.node.name ∙ c.requires.held

pub retag-requires-clause-placed : goal.retag-requires-clause-placed
retag-requires-clause-placed c =
    let o = goal.at.retag-requires-clause-placed c in
    kept_placed c.unlink.new.p (may_leave o.After-find_kept-kept) c.unlink.ensures.pass refl

pub link-requires : goal.link-requires
link-requires c =
    let o = goal.at.link-requires c in let leave = may_leave o.After-find_kept-kept in
    can_come (mark_at c.args.marks.now) c.find_kept-kept.result c.args.node c.value-stored.result.now c.args.stamp c.args.self.now.structures.items c.unlink.new.self.items
    c.args.self.now.pool c.unlink.new.p c.retag.new.p c.requires.held (has_changed o.After-retag leave) (has_tags o.After-retag leave)
    c.unlink.ensures.like c.unlink.ensures.pass (is_asked o.After-find_kept-kept)

pub returns-clause-restamped : goal.returns-clause-restamped
returns-clause-restamped c v is rss a can =
    let o = goal.at.returns-clause-restamped c in let leave = may_leave o.After-find_kept-kept in
    let same = same_value c.value-stored.result.now v (sym c.value-stored.ensures ∙ is) in
    let xs = c.args.self.now.structures.items in let m = c.args.self.now.pool in
    subst (λ q. IsRekeyed (rekeyed c.args.marks.now c.args.node c.args.stamp) c.args.node q xs c.link.new.self.items m c.link.new.p rss) same
    (is_rekeyed (mark_at c.args.marks.now) c.find_kept-kept.result c.args.node c.value-stored.result.now c.args.stamp xs c.unlink.new.self.items
    m c.unlink.new.p c.retag.new.p c.requires.held (has_changed o.After-retag leave) (has_tags o.After-retag leave)
    c.unlink.ensures.like c.unlink.ensures.pass c.link.new.self.items c.link.new.p c.link.ensures.pass rss a
    (can_keep (mark_at c.args.marks.now) c.find_kept-kept.result c.args.node c.value-stored.result.now c.args.stamp xs m c.find_kept-kept.ensures rss a
    (subst (λ q. AllCan (rekeying c.args.marks.now c.args.node q c.args.stamp) xs 0 m rss) (sym same) can)))

pub returns-clause-like : goal.returns-clause-like
returns-clause-like c = like_both c.args.self.now.structures.items c.unlink.new.self.items
    c.link.new.self.items c.unlink.ensures.like c.link.ensures.like
