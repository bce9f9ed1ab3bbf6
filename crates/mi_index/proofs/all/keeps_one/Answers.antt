-- The node moves here, so it stands between two parts of the list.
use Rattle.std.proofs.Common.{◌≡◌, Some, sym, ◌∙◌, subst}
use Rattle.mi_index.specs.Keeping.{KeepsFor}
use Rattle.mi_index.specs.Places.{stamp_for}
use Rattle.mi_index.specs.Standing.{Stands}
use Rattle.mi_index.proofs.KeepingLemmas.{is_there}
use Rattle.mi_index.proofs.all.keeps_one.Goals as goal

pub returns-in-Some : goal.returns-in-Some
returns-in-Some c rs h there =
    let x = c.args.structure.now in let m = c.args.p.now in let r = c.args.node in let v = c.args.stored.now in
    let is : stamp_for c.args.moves.now c.args.slot c.args.stamp ≡ Some c.in-Some.stamp = sym c.stamp_in.ensures ∙ c.in-Some.is in
    let p = is_there c.args.moves.now c.args.slot c.args.stamp c.in-Some.stamp r rs is there in (
      λ t. subst (λ o. KeepsFor o x m r v rs) (sym is) (record {
        xs = p.xs;
        ys = p.ys;
        parts = p.parts;
        keeps = (c.keeps_place.ensures p.xs p.ys (subst (Stands x m) p.parts h)).0 t;
      }),
      λ k.
          let q = subst (λ o. KeepsFor o x m r v rs) is k in
          (c.keeps_place.ensures q.xs q.ys (subst (Stands x m) q.parts h)).1 q.keeps,
    )
