-- The node moves here.
use Rattle.std.proofs.Common.{◌≡◌, true, sym, ◌∙◌, subst}
use Rattle.mi_index.specs.Places.{is_moved}
use Rattle.mi_index.specs.Passes.{HasNodeIf, IsLeftIf}
use Rattle.mi_index.proofs.all.unlink_one.Goals as goal

pub returns-then-moves_in-clause-step : goal.returns-then-moves_in-clause-step
returns-then-moves_in-clause-step c rs h j =
    let x = c.args.structure.now in let m = c.args.p.now in let n = c.unlink.new.p in let r = c.args.node in
    let yes : is_moved c.args.moves.now c.args.slot ≡ true = sym c.moves_in.ensures ∙ c.if-moves_in.true in
    let a = c.unlink.ensures.step rs h (subst (λ z. HasNodeIf z r rs) yes j) in
    record { us = a.us; done = subst (λ z. IsLeftIf z x m n r rs a.us) (sym yes) a.done; stands = a.stands; keeps = a.keeps }
