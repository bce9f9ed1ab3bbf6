-- From an empty path the path down to a rank gives a walk.
use Rattle.std.proofs.Common.{[], take, drop, sym, ◌∙◌, subst}
use Rattle.std.proofs.lemmas.List.{append-nil}
use Rattle.mi_tree.specs.BinaryTree.{nodes}
use Rattle.mi_tree.specs.Walking.{Enters, beyond}
use Rattle.mi_tree.proofs.walk.Walk.start.Goals as goal

pub returns-clause-walk : goal.returns-clause-walk
returns-clause-walk g c levels t h =
    let v = c.args in let m = v.p.now.pool in
    let on = c.cut_down.ensures.way levels [] t (subst (λ k. Enters m v.slot v.direction levels k v.root [] t) (sym c.new-path.ensures) h) in
    record {
      xs = on.0;
      goes = on.1;
      ahead_is = on.2 ∙ append-nil (beyond v.direction (take v.passed (nodes t)) (drop v.passed (nodes t)));
      low = h.low;
      has_slot = c.requires.slot;
    }
