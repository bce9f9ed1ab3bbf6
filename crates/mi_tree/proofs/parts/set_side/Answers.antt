-- A node whose link with another side and height names two trees is the root of one tree.
use Rattle.mi_tree.proofs.JoinLemmas.{keeps_set, joined, tags_set}
use Rattle.mi_tree.proofs.parts.set_side.Goals as goal

pub returns-clause-tree : goal.returns-clause-tree
returns-clause-tree g c A B h = let v = c.args in joined v.slot v.p.now c.set_side.new.self v.x _ A B c.set_side.ensures h

pub returns-clause-keeps : goal.returns-clause-keeps
returns-clause-keeps g c = keeps_set _ c.set_side.ensures

pub returns-clause-slots : goal.returns-clause-slots
returns-clause-slots g c = (keeps_set {x = c.args.x} _ c.set_side.ensures).slots

pub returns-clause-tags : goal.returns-clause-tags
returns-clause-tags g c =
    let v = c.args in let h = c.requires.parts.2 in tags_set v.slot v.p.now c.set_side.new.self v.x _ c.set_side.ensures h.two.held h.tag_is
