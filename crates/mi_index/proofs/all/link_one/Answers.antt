-- The node moves here.
use Rattle.std.proofs.Common.{◌≡◌, true, sym, ◌∙◌, subst}
use Rattle.mi_index.specs.Places.{is_moved, before_at, CanJoin, IsJoined}
use Rattle.mi_index.specs.Passes.{CanJoinIf, IsJoinedIf}
use Rattle.mi_index.proofs.all.link_one.Goals as goal

pub returns-then-moves_in-clause-step : goal.returns-then-moves_in-clause-step
returns-then-moves_in-clause-step c rs h j =
    let x = c.args.structure.now in let m = c.args.p.now in let n = c.link.new.p in let r = c.args.it.now.node in let t = c.args.it.now.stamp in
    let b = before_at c.args.slot c.args.it.now.before in
    let yes : is_moved c.args.it.now.moves c.args.slot ≡ true = sym c.moves_in.ensures ∙ c.if-moves_in.true in
    let can = subst (λ o. CanJoin x m r t o rs) (sym c.before_in.ensures) (subst (λ z. CanJoinIf z x m r t b rs) yes j) in
    let a = c.link.ensures.step rs h can in
    record {
      us = a.us;
      done = subst (λ z. IsJoinedIf z x m n r t b rs a.us) (sym yes) (subst (λ o. IsJoined x m n r t o rs a.us) c.before_in.ensures a.done);
      stands = a.stands;
      keeps = a.keeps;
    }
