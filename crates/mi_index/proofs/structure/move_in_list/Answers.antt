-- A node of a list moves, or stays where the place is its own.
use Rattle.std.proofs.Common.{inl, inr, ◌∷◌, ◌++◌, subst, sym, refl}
use Rattle.mi_node.specs.Pool.{Pooled, Keeps}
use Rattle.mi_list.specs.Listed.{slot_of, IsListed}
use Rattle.mi_index.specs.Pass.{IsChanged}
use Rattle.mi_index.specs.Inserting.{relocated_one, IsPlace}
use Rattle.mi_index.specs.declared.structure.Structure.TheVariants.{Sequenced}
use Rattle.mi_index.proofs.JoinLemmas.{keeps_all}
use Rattle.mi_index.proofs.structure.move_in_list.Goals as goal

pub move_before-requires : goal.move_before-requires
move_before-requires c =
    let q = c.requires in let p = q.can in (p.0, p.1, subst (IsListed c.args.list.now c.args.p.now) p.2 q.stands, p.3)

pub returns-clause-step : goal.returns-clause-step
returns-clause-step c rs h j =
    let l = c.args.list.now in let k = c.move_before.new.self in let m = c.args.p.now in
    let n = c.move_before.new.p in let r = c.args.node in let b = c.args.before in
    let e = c.move_before.ensures in
    let w = subst (IsListed l m) j.2 h in
    let g : Keeps m n (slot_of l) (r ∷ rs) = keeps_all (slot_of l) m n r rs (j.0 ++ r ∷ j.1) j.2 (e.keeps j.0 j.1 w) in
    let place : IsPlace r b (j.0 ++ j.1) = j.3 in
    elim place as (λ _. IsChanged (relocated_one r b) r 0 (Sequenced l) (Sequenced k) m n rs) [
      | inl here ↦ (let same = e.itself here in
          record {
            us = rs;
            done = inl (here, refl);
            stands = subst (λ (z : _). IsListed z n rs) (sym same.0) (subst (λ (z : Pooled _). IsListed l z rs) (sym same.1) h);
            keeps = g;
          })
      | inr there ↦ record {
        us = there.0 ++ r ∷ there.1;
        done = inr (record { xs = j.0; ys = j.1; was = j.2; ps = there.0; qs = there.1; others = there.2; at = there.3; now = refl });
        stands = e.list j.0 j.1 there.0 there.1 w there.2 there.3;
        keeps = g;
      }
    ]
