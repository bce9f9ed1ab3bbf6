-- The list of that index, or another structure.
use Rattle.std.proofs.Common.{◌≡◌, ◌==◌, true, false, inl, inr, refl, sym, subst}
use Rattle.std.proofs.lemmas.Bool.Decides.{eqb_tells}
use Rattle.mi_node.proofs.EntryLemmas.{same_refl}
use Rattle.mi_index.specs.Inserting.{CanRelocateIf, IsRelocatedIf}
use Rattle.mi_index.proofs.all.relocate_one.Goals as goal

pub returns-then-slot-index-clause-step : goal.returns-then-slot-index-clause-step
returns-then-slot-index-clause-step c rs h j =
    let x = c.args.structure.now in let m = c.args.p.now in let n = c.move_before.new.p in let r = c.args.node in let b = c.args.before in
    let yes : (c.args.slot == c.args.index) ≡ true = subst (λ z. (c.args.slot == z) ≡ true) c.if-slot-index.true (same_refl c.args.slot) in
    let a = c.move_before.ensures.step rs h (subst (λ z. CanRelocateIf z x r b rs) yes j) in
    record { us = a.us; done = subst (λ z. IsRelocatedIf z x m n r b rs a.us) (sym yes) a.done; stands = a.stands; keeps = a.keeps }

pub returns-else-slot-index-clause-step : goal.returns-else-slot-index-clause-step
returns-else-slot-index-clause-step c rs h j =
    let x = c.args.structure.now in let m = c.args.p.now in let r = c.args.node in let b = c.args.before in
    let no_ : (c.args.slot == c.args.index) ≡ false = elim (eqb_tells c.args.slot c.args.index)
    [ inl is ↦ absurd (c.if-slot-index.false is.1) | inr isnt ↦ isnt.0 ] in
    record {
      us = rs;
      done = subst (λ z. IsRelocatedIf z x m m r b rs rs) (sym no_) (record { list = refl; links = λ k. refl });
      stands = h;
      keeps = record { refs = λ k. refl; values = λ k. refl; slots = refl; other_slots = λ k t e. refl; other_nodes = λ k t o. refl };
    }
