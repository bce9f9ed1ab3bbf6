-- A node joins a list at the place that is given.
use Rattle.std.proofs.Common.{subst, sym, ◌∷◌, ◌++◌, refl}
use Rattle.mi_node.specs.Pool.{Keeps}
use Rattle.mi_node.specs.Refs.{IsOut}
use Rattle.mi_list.specs.Listed.{slot_of, IsListed}
use Rattle.mi_index.proofs.structure.link_list.Goals as goal

pub insert_before-requires-clause-held : goal.insert_before-requires-clause-held
insert_before-requires-clause-held c = c.requires.can.held

pub insert_before-requires-clause-place : goal.insert_before-requires-clause-place
insert_before-requires-clause-place c =
    let q = c.requires in let p = q.can.place in
    (p.0, p.1, subst (IsListed c.args.list.now c.args.p.now) p.2 q.stands, subst (IsOut c.args.node.name) p.2 q.can.out, p.3)

pub returns-clause-step : goal.returns-clause-step
returns-clause-step c rs h j =
    let l = c.args.list.now in let r = c.args.node in let p = j.place in let e = c.insert_before.ensures in
    let a = subst (IsListed l c.args.p.now) p.2 h in let o = subst (IsOut r.name) p.2 j.out in
    record {
      us = p.0 ++ r ∷ p.1;
      done = record { joined = record { xs = p.0; ys = p.1; was = p.2; now = refl }; put = p.3; stamped = tt };
      stands = e.list p.0 p.1 a o p.3;
      keeps = subst (λ k. Keeps c.args.p.now c.insert_before.new.p (slot_of l) (r ∷ k)) (sym p.2) (e.keeps p.0 p.1 a o p.3);
    }
