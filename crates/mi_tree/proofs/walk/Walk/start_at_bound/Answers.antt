-- From an empty path the path down to a place gives a walk.
use Rattle.std.proofs.Common.{[], sym, ◌∙◌, subst}
use Rattle.std.proofs.lemmas.List.{append-nil}
use Rattle.mi_tree.specs.Walking.{Enters}
use Rattle.mi_tree.proofs.walk.Walk.start_at_bound.Goals as goal

pub returns-clause-walk : goal.returns-clause-walk
returns-clause-walk g c levels t h up =
    let v = c.args in let m = v.p.now.pool in
    let on = c.seek_down.ensures.way levels [] t (subst (λ k. Enters m v.slot v.direction levels k v.root [] t) (sym c.new-path.ensures) h) up in
    record { xs = on.0; goes = on.1; ahead_is = on.2 ∙ append-nil _; low = h.low; has_slot = c.requires.slot }
