-- A node whose link names two trees, with their size and height, is the root of one tree.
use Rattle.std.proofs.Common.{◌≡◌, sym, ap, ◌∙◌}
use Rattle.mi_node.specs.Pool.{with_link}
use Rattle.mi_node.specs.declared.link.Link.{Link}
use Rattle.mi_tree.proofs.JoinLemmas.{keeps_set, joined, tags_set}
use Rattle.mi_tree.proofs.parts.set_fork.Given.{Over}
use Rattle.mi_tree.proofs.parts.set_fork.Goals.{After-set_link}
use Rattle.mi_tree.proofs.parts.set_fork.Goals as goal

module _ (g : Over) (c : After-set_link g) where
  -- the node's tag is the link's
  set : c.set_link.new.self ≡ with_link c.args.p.now c.args.x.name c.args.slot c.args.link
  set =
      let v = c.args in let same = ap (λ (y : Link). y.tag) c.link.ensures ∙ sym c.requires.parts.2.tag_is in
      c.set_link.ensures ∙ ap (with_link v.p.now v.x.name v.slot)
      (λ i. record { back = v.link.back; forth = v.link.forth; size = v.link.size; height = v.link.height; tag = same i })

pub link-requires-clause-held : goal.link-requires-clause-held
link-requires-clause-held g c = c.requires.parts.2.two.held

pub set_link-requires-clause-held : goal.set_link-requires-clause-held
set_link-requires-clause-held g c = c.requires.parts.2.two.held

pub returns-clause-tree : goal.returns-clause-tree
returns-clause-tree g c A B h =
    let v = c.args in joined v.slot v.p.now c.set_link.new.self v.x v.link A B (set g (goal.at.returns-clause-tree g c).After-set_link) h

pub returns-clause-keeps : goal.returns-clause-keeps
returns-clause-keeps g c = keeps_set _ c.set_link.ensures

pub returns-clause-slots : goal.returns-clause-slots
returns-clause-slots g c = (keeps_set {x = c.args.x} _ c.set_link.ensures).slots

pub returns-clause-tags : goal.returns-clause-tags
returns-clause-tags g c =
    let v = c.args in let h = c.requires.parts.2 in
    tags_set v.slot v.p.now c.set_link.new.self v.x v.link (set g (goal.at.returns-clause-tags g c).After-set_link) h.two.held h.tag_is
