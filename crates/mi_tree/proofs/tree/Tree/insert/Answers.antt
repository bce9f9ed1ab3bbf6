-- The node, with its tag set, may be put in, and what is put together is the sorted list with it.
use Rattle.std.proofs.Common.{◌<◌, List, ◌∷◌, refl, sym, subst}
use Rattle.mi_node.specs.Refs.{Ref}
use Rattle.mi_node.specs.declared.link.Tag.{Tag}
use Rattle.mi_tree.specs.BinaryTree.{BinaryTree, nodes}
use Rattle.mi_tree.specs.Sorted.{AreTagged, HasPut, CanPut, side}
use Rattle.mi_tree.specs.Standing.{IsTree, CanInsert}
use Rattle.mi_tree.proofs.StandingLemmas.{can_put, put_tagged, has_put, put_keeps, put_stamp, put_tags, set_keeps, set_tag}
use Rattle.mi_tree.proofs.tree.Tree.insert.Given.{Over}
use Rattle.mi_tree.proofs.tree.Tree.insert.Goals.{After-set_link, After-put_in-self}
use Rattle.mi_tree.proofs.tree.Tree.insert.Goals as goal

module _ (g : Over) (c : After-set_link g) where
  -- the new node's tag
  abbrev new : Tag
  new = record { key = c.tag-key.result; stamp = c.args.stamp }

  -- the tree and the node, as they are put together
  can : {rs : List Ref} (h : IsTree c.args.self.now c.args.p.now (g.O.NodeOrder.order c.args.self.now.order) (g.O.NodeOrder.tag_of c.args.self.now.order) rs)
      → CanInsert c.args.p.now c.args.self.now.slot (g.O.NodeOrder.order c.args.self.now.order) c.args.node c.args.stamp rs
      → CanPut c.set_link.new.self c.args.self.now.slot (side (g.O.NodeOrder.order c.args.self.now.order) c.set_link.new.self c.args.self.now.slot)
      c.args.self.now.root c.args.node h.shape
      × AreTagged (g.O.NodeOrder.tag_of c.args.self.now.order) c.set_link.new.self c.args.self.now.slot (c.args.node ∷ nodes h.shape)
  can h w = (can_put new h w c.set_link.ensures, put_tagged new h w c.set_link.ensures c.value.result.now c.value.ensures c.tag-key.ensures)

module _ (g : Over) (c : After-put_in-self g) where
  -- what was put in
  put : {rs : List Ref} (h : IsTree c.args.self.now c.args.p.now (g.O.NodeOrder.order c.args.self.now.order) (g.O.NodeOrder.tag_of c.args.self.now.order) rs)
      → CanInsert c.args.p.now c.args.self.now.slot (g.O.NodeOrder.order c.args.self.now.order) c.args.node c.args.stamp rs
      → (u : BinaryTree) × HasPut c.set_link.new.self c.put_in-self.new.p c.args.self.now.slot
      (side (g.O.NodeOrder.order c.args.self.now.order) c.set_link.new.self c.args.self.now.slot) c.args.node h.shape c.put_in-self.result u
  put h w =
      let made : Tag = record { key = c.tag-key.result; stamp = c.args.stamp } in
      c.put_in-self.ensures.tree h.shape (can_put made h w c.set_link.ensures)
      (put_tagged made h w c.set_link.ensures c.value.result.now c.value.ensures c.tag-key.ensures)

pub put_in-self-requires-clause-slot : goal.put_in-self-requires-clause-slot
put_in-self-requires-clause-slot g c =
    let l = c.args.self.now in let w = c.requires in let o = (goal.at.put_in-self-requires-clause-slot g c).After-set_link in
    subst (λ k. l.slot < k) (sym (set_keeps (g.O.NodeOrder.order l.order) (g.O.NodeOrder.tag_of l.order) c.args.p.now c.set_link.new.self l.slot
    c.args.node (new g o) w.2.held c.set_link.ensures).slots) w.1.has_slot

pub put_in-self-requires-clause-tag : goal.put_in-self-requires-clause-tag
put_in-self-requires-clause-tag g c =
    let l = c.args.self.now in let w = c.requires in let o = (goal.at.put_in-self-requires-clause-tag g c).After-set_link in
    sym (set_tag (g.O.NodeOrder.order l.order) (g.O.NodeOrder.tag_of l.order) c.args.p.now c.set_link.new.self l.slot c.args.node (new g o) w.2.held
    c.set_link.ensures)

pub put_in-self-requires-clause-tree : goal.put_in-self-requires-clause-tree
put_in-self-requires-clause-tree g c =
    let w = c.requires in let on = can g (goal.at.put_in-self-requires-clause-tree g c).After-set_link w.1 w.2 in (w.1.shape, on.0, on.1)

pub returns-clause-tree : goal.returns-clause-tree
returns-clause-tree g c rs h w =
    let o = goal.at.returns-clause-tree g c in let on = put g o.After-put_in-self h w in
    has_put (new g o.After-set_link) h w c.set_link.ensures (g.met.O.NodeOrder.total c.args.self.now.order) _ c.put_in-self.new.p
    c.put_in-self.result on.0 c.value.result.now c.value.ensures c.tag-key.ensures refl refl on.1

pub returns-clause-keeps : goal.returns-clause-keeps
returns-clause-keeps g c rs h w =
    let o = goal.at.returns-clause-keeps g c in let on = put g o.After-put_in-self h w in
    put_keeps (new g o.After-set_link) h w c.set_link.ensures c.put_in-self.new.p on.1.keeps

pub returns-clause-stamp : goal.returns-clause-stamp
returns-clause-stamp g c =
    let o = goal.at.returns-clause-stamp g c in let w = c.requires in let on = put g o.After-put_in-self w.1 w.2 in
    put_stamp (new g o.After-set_link) w.1 w.2 c.set_link.ensures c.put_in-self.new.p on.1.tags

pub returns-clause-tags : goal.returns-clause-tags
returns-clause-tags g c =
    let o = goal.at.returns-clause-tags g c in let w = c.requires in let on = put g o.After-put_in-self w.1 w.2 in
    put_tags (new g o.After-set_link) w.1 w.2 c.set_link.ensures c.put_in-self.new.p on.1.tags
