-- The node has a place here.
use Rattle.std.proofs.Common.{◌≡◌, sym, ◌∙◌, subst}
use Rattle.std.specs.declared.option.Option.TheVariants.{Some}
use Rattle.mi_node.specs.Pool.{link_of}
use Rattle.mi_index.specs.Places.{place_for}
use Rattle.mi_index.specs.Passes.{CanReturnTo, IsBackAt}
use Rattle.mi_index.proofs.all.relink_one.Goals as goal

pub returns-in-Some-clause-step : goal.returns-in-Some-clause-step
returns-in-Some-clause-step c rs h j =
    let x = c.args.structure.now in let m = c.args.p.now in let n = c.relink.new.p in let r = c.args.node in let s = c.args.slot in
    let is : place_for c.args.moves.now s (link_of m r.name s) ≡ Some c.in-Some.place =
    sym c.place_of.ensures ∙ c.in-Some.is in
    let a = c.relink.ensures.step rs h (subst (λ o. CanReturnTo o x m r rs) is j) in
    record {
      us = a.us;
      done = subst (λ o. IsBackAt o x m n r rs a.us) (sym is) a.done;
      stands = a.stands;
      keeps = a.keeps;
    }
