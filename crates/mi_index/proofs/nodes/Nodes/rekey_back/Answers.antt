-- The node leaves the indexes that have a place for it, but for those in which it keeps its own, gets its old value and its tags, and
-- comes back to the places.
use Rattle.std.proofs.Common.{◌≡◌, ℕ, ◌∙◌, [], Some, sym, ap, subst}
use Rattle.mi_node.specs.Pool.{Pooled, IsHeld, value_of, link_of}
use Rattle.mi_node.proofs.EntryLemmas.{ref-with_value, value_here, link-with_value, slots-with_value}
use Rattle.mi_order.specs.declared.stored.Stored.{Stored}
use Rattle.mi_index.specs.Keeping.{KeepsButLinks, AreRetagged, retags}
use Rattle.mi_index.specs.Pass.{AreReady}
use Rattle.mi_index.specs.Places.{given_at}
use Rattle.mi_index.proofs.InsertLemmas.{like_both}
use Rattle.mi_index.proofs.OtherNodeLemmas.{IsExchanged}
use Rattle.mi_index.proofs.RekeyLemmas.{back_asked, back_leaves, back_stamps, are_back_there, are_asked_back, can_keep_back, can_go_leave, can_go_come, is_given_back}
use Rattle.mi_index.proofs.RekeyLemmas.{kept_refs, kept_values, kept_placed, exchanged}
use Rattle.mi_index.proofs.KeepingLemmas.{retagged_from}
use Rattle.mi_index.proofs.nodes.Nodes.rekey_back.Goals.{After-find_kept-kept, After-unlink, After-swap_value-old, After-retag}
use Rattle.mi_index.proofs.nodes.Nodes.rekey_back.Goals as goal

module _ (c : After-find_kept-kept) where
  -- what is asked, and that the flags are right
  is_asked : AreReady (back_asked (given_at c.args.places.now) c.find_kept-kept.result c.args.node c.args.stored) 0 c.args.self.now.structures.items c.args.self.now.pool
  is_asked = are_asked_back (given_at c.args.places.now) c.find_kept-kept.result c.args.node c.args.stored c.args.self.now.structures.items c.args.self.now.pool c.find_kept-kept.ensures c.requires.places

  may_leave : AreReady (back_leaves (given_at c.args.places.now) c.find_kept-kept.result c.args.node c.args.stored) 0 c.args.self.now.structures.items c.args.self.now.pool
  may_leave = can_go_leave (given_at c.args.places.now) c.find_kept-kept.result c.args.node c.args.stored c.args.self.now.structures.items c.args.self.now.pool is_asked

module _ (c : After-unlink) (ready : AreReady (back_leaves (given_at c.args.places.now) c.find_kept-kept.result c.args.node c.args.stored) 0 c.args.self.now.structures.items c.args.self.now.pool) where
  still_held : IsHeld c.unlink.new.p c.args.node
  still_held = kept_refs ready c.unlink.ensures.pass c.args.node.name ∙ c.requires.held

module _ (c : After-swap_value-old) (held : IsHeld c.unlink.new.p c.args.node) where
  held_there : IsHeld c.swap_value-old.new.self c.args.node
  held_there = subst (λ z. IsHeld z c.args.node) (sym c.swap_value-old.ensures.pool)
      (ref-with_value c.unlink.new.p c.args.node.name c.args.stored c.args.node.name ∙ held)

  has_value : value_of c.swap_value-old.new.self c.args.node.name ≡ Some c.args.stored
  has_value = ap (λ (z : Pooled Stored). value_of z c.args.node.name) c.swap_value-old.ensures.pool ∙ value_here c.unlink.new.p c.args.node c.args.stored held

  has_link : (t : ℕ) → link_of c.swap_value-old.new.self c.args.node.name t ≡ link_of c.unlink.new.p c.args.node.name t
  has_link t = ap (λ (z : Pooled Stored). link_of z c.args.node.name t) c.swap_value-old.ensures.pool
      ∙ link-with_value c.unlink.new.p c.args.node.name c.args.stored c.args.node.name t

module _ (c : After-retag) (held : IsHeld c.unlink.new.p c.args.node)
    (value : value_of c.swap_value-old.new.self c.args.node.name ≡ Some c.args.stored)
    (links : (t : ℕ) → link_of c.swap_value-old.new.self c.args.node.name t ≡ link_of c.unlink.new.p c.args.node.name t) where
  -- the node has its value, and the tags of that
  has_changed : IsExchanged c.args.node c.args.stored c.unlink.new.p c.retag.new.p
  has_changed = exchanged c.unlink.new.p c.retag.new.p c.args.node c.args.stored held
      (subst (λ z. KeepsButLinks z c.retag.new.p c.args.node) c.swap_value-old.ensures.pool c.retag.ensures.but)

  has_tags : AreRetagged (retags c.find_kept-kept.result (back_stamps (given_at c.args.places.now) c.find_kept-kept.result c.args.node c.args.stored))
      c.args.node c.args.stored c.unlink.new.self.items 0 c.unlink.new.p c.retag.new.p
  has_tags = retagged_from (retags c.find_kept-kept.result (back_stamps (given_at c.args.places.now) c.find_kept-kept.result c.args.node c.args.stored))
      c.args.node c.args.stored c.unlink.new.self.items 0 c.unlink.new.p c.swap_value-old.new.self c.retag.new.p (λ t l. links t)
      (c.retag.ensures.own c.args.stored value)

pub find_kept-kept-requires : goal.find_kept-kept-requires
find_kept-kept-requires c = are_back_there (given_at c.args.places.now) [] c.args.node c.args.stored c.args.self.now.structures.items c.args.self.now.pool c.requires.places

pub unlink-requires : goal.unlink-requires
unlink-requires c = may_leave (goal.at.unlink-requires c).After-find_kept-kept

pub swap_value-old-requires : goal.swap_value-old-requires
swap_value-old-requires c =
    let o = goal.at.swap_value-old-requires c in still_held o.After-unlink (may_leave o.After-find_kept-kept)

pub retag-requires-clause-held : goal.retag-requires-clause-held
retag-requires-clause-held c =
    let o = goal.at.retag-requires-clause-held c in
    held_there o.After-swap_value-old (still_held o.After-unlink (may_leave o.After-find_kept-kept))

pub retag-requires-clause-placed : goal.retag-requires-clause-placed
retag-requires-clause-placed c =
    let o = goal.at.retag-requires-clause-placed c in
    kept_placed c.swap_value-old.new.self (may_leave o.After-find_kept-kept) c.unlink.ensures.pass
    (ap (λ (z : Pooled Stored). z.slots) c.swap_value-old.ensures.pool ∙ slots-with_value c.unlink.new.p c.args.node.name c.args.stored)

pub relink-requires-clause-held : goal.relink-requires-clause-held
relink-requires-clause-held c =
    let o = goal.at.relink-requires-clause-held c in
    c.retag.ensures.but.refs c.args.node.name ∙ held_there o.After-swap_value-old (still_held o.After-unlink (may_leave o.After-find_kept-kept))

pub relink-requires-clause-all : goal.relink-requires-clause-all
relink-requires-clause-all c =
    let o = goal.at.relink-requires-clause-all c in let held = still_held o.After-unlink (may_leave o.After-find_kept-kept) in
    let value = has_value o.After-swap_value-old held in let links = has_link o.After-swap_value-old held in
    can_go_come (given_at c.args.places.now) c.find_kept-kept.result c.args.node c.args.stored c.args.self.now.structures.items c.unlink.new.self.items
    c.args.self.now.pool c.unlink.new.p c.retag.new.p c.requires.held (has_changed o.After-retag held value links) (has_tags o.After-retag held value links)
    c.unlink.ensures.like c.unlink.ensures.pass (is_asked o.After-find_kept-kept)

pub returns-clause-value : goal.returns-clause-value
returns-clause-value c =
    let o = goal.at.returns-clause-value c in
    sym (kept_values (may_leave o.After-find_kept-kept) c.unlink.ensures.pass c.args.node.name) ∙ c.swap_value-old.ensures.value

pub returns-clause-rekeyed : goal.returns-clause-rekeyed
returns-clause-rekeyed c rss a can =
    let o = goal.at.returns-clause-rekeyed c in let held = still_held o.After-unlink (may_leave o.After-find_kept-kept) in
    let value = has_value o.After-swap_value-old held in let links = has_link o.After-swap_value-old held in
    is_given_back (given_at c.args.places.now) c.find_kept-kept.result c.args.node c.args.stored c.args.self.now.structures.items c.unlink.new.self.items
    c.args.self.now.pool c.unlink.new.p c.retag.new.p c.requires.held (has_changed o.After-retag held value links) (has_tags o.After-retag held value links)
    c.unlink.ensures.like c.unlink.ensures.pass c.relink.new.self.items c.relink.new.p c.relink.ensures.pass rss a
    (can_keep_back (given_at c.args.places.now) c.find_kept-kept.result c.args.node c.args.stored c.args.self.now.structures.items c.args.self.now.pool c.find_kept-kept.ensures rss a can)

pub returns-clause-like : goal.returns-clause-like
returns-clause-like c = like_both c.args.self.now.structures.items c.unlink.new.self.items
    c.relink.new.self.items c.unlink.ensures.like c.relink.ensures.like
