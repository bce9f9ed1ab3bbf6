-- A node comes back between the neighbours that its own link names.
use Rattle.std.proofs.Common.{subst, sym, ap, ◌∙◌, ◌∷◌, ◌++◌, refl}
use Rattle.mi_node.specs.Pool.{Keeps}
use Rattle.mi_node.specs.Refs.{IsOut}
use Rattle.mi_node.proofs.KeepingLemmas.{keeps_more}
use Rattle.mi_list.specs.Listed.{slot_of, IsListed, FitsBetween}
use Rattle.mi_node.specs.declared.old_place.OldPlace.{OldPlace}
use Rattle.mi_index.proofs.structure.relink_list.Goals as goal

pub relink-requires : goal.relink-requires
relink-requires c =
    let q = c.requires in let j = q.can in let p = j.place in (
      p.xs,
      p.ys,
      record {
        listed = subst (IsListed c.args.list.now c.args.p.now) p.parts q.stands;
        held = j.held;
        out = subst (IsOut c.args.node.name) p.parts j.out;
        back_is = sym (ap (λ (k : OldPlace). k.back) p.own) ∙ p.beside.0;
        forth_is = sym (ap (λ (k : OldPlace). k.forth) p.own) ∙ p.beside.1;
      },
    )

pub returns-clause-step : goal.returns-clause-step
returns-clause-step c rs h j =
    let l = c.args.list.now in let m = c.args.p.now in let r = c.args.node in let p = j.place in let e = c.relink.ensures in
    let f : FitsBetween l m r p.xs p.ys =
    record {
      listed = subst (IsListed l m) p.parts h;
      held = j.held;
      out = subst (IsOut r.name) p.parts j.out;
      back_is = sym (ap (λ (k : OldPlace). k.back) p.own) ∙ p.beside.0;
      forth_is = sym (ap (λ (k : OldPlace). k.forth) p.own) ∙ p.beside.1;
    } in
    record {
      us = p.xs ++ r ∷ p.ys;
      done = record { back = record { xs = p.xs; ys = p.ys; was = p.parts; now = refl }; beside = p.beside; stamped = tt };
      stands = e.list p.xs p.ys f;
      keeps = subst (λ k. Keeps m c.relink.new.p (slot_of l) (r ∷ k)) (sym p.parts)
          (keeps_more (slot_of l) m c.relink.new.p (p.xs ++ p.ys) (r ∷ (p.xs ++ p.ys)) (e.keeps p.xs p.ys f) (λ k o. o.1));
    }
