-- The tag of the first structure, and those of the rest.
use Rattle.std.proofs.Common.{◌∙◌, ◌+◌, sym, subst, arith}
use Rattle.mi_index.specs.Keeping.{ArePlaced, AreRetagged, retags}
use Rattle.mi_index.specs.Places.{stamp_for}
use Rattle.mi_index.proofs.KeepingLemmas.{placed_still, retagged_from, differs_from}
use Rattle.mi_index.proofs.all.+retag_all.Goals as goal

pub retag_all-requires : goal.retag_all-requires
retag_all-requires t c =
    let is = c.in-Some.ensures.cases in let first = is.1 in let fits = c.requires.fits in let b = c.retag_one.ensures.but in (
      omega (arith, c.decreases, first),
      (
        omega (arith, fits, first),
        (
          b.refs c.args.node.name ∙ c.requires.held,
          placed_still c.in-Some.rest.now (c.args.slot + 1) c.args.p.now c.retag_one.new.p b.slots
              (subst (λ xs. ArePlaced xs c.args.slot c.args.p.now) is.0 c.requires.placed).2,
        ),
      ),
    )

pub returns-in-Some-clause-own : goal.returns-in-Some-clause-own
returns-in-Some-clause-own t c v is =
    let r = c.args.node in let s = c.args.slot in let m = c.args.p.now in let n = c.retag_one.new.p in let o = c.retag_all.new.p in
    subst (λ xs. AreRetagged (retags c.args.kept.now (λ k. stamp_for c.args.moves.now k c.args.stamp)) r v xs s m o) (sym c.in-Some.ensures.cases.0) (
      c.retag_all.ensures.earlier s (omega arith) ∙ c.retag_one.ensures.own v is,
      retagged_from (retags c.args.kept.now (λ k. stamp_for c.args.moves.now k c.args.stamp)) r v c.in-Some.rest.now (s + 1) m n o
          (λ k l. c.retag_one.ensures.slots k (differs_from s k l)) (c.retag_all.ensures.own v (c.retag_one.ensures.but.values r.name ∙ is)),
    )
