-- Each row is there.
use Rattle.std.proofs.Common.{sym, ◌∙◌, subst, arith}
use Rattle.mi_catalog.specs.Shape.{Shape}
use Rattle.mi_container.specs.Asked.{IsSequenced}
use Rattle.mi_container.proofs.RestoreLemmas.{id_moves, moved_next}
use Rattle.mi_multi.proofs.multi.MultiIndex.move_rows.Goals as goal

pub move_last-requires-clause-index : goal.move_last-requires-clause-index
move_last-requires-clause-index c = subst (λ (s : Shape). IsSequenced s c.args.index) (sym c.loop-place.invariant.shape) c.requires.index

pub move_last-requires-clause-row : goal.move_last-requires-clause-row
move_last-requires-clause-row c =
    id_moves c.args.index c.args.ids.now c.args.self.now.plain c.requires.each c.loop-place.place
    (let l = c.loop-place-test.true in let e = c.loop-place.auto.place-end in omega (arith, l, e)) c.requires.few
    c.loop-place.self.plain c.loop-place.invariant.plain

pub loop-place-preserved : goal.loop-place-preserved
loop-place-preserved c = record {
  plain = moved_next c.args.index c.args.ids.now c.args.self.now.plain c.requires.each c.loop-place.place
      (let l = c.loop-place-test.true in let e = c.loop-place.auto.place-end in omega (arith, l, e)) c.requires.few
      c.loop-place.self.plain c.loop-place.invariant.plain c.move_last.new.self.plain c.move_last.ensures.plain;
  within = (let l = c.loop-place-test.true in let e = c.loop-place.auto.place-end in omega (arith, l, e));
  shape = c.move_last.ensures.shape ∙ c.loop-place.invariant.shape;
  secrets = c.move_last.ensures.secrets ∙ c.loop-place.invariant.secrets;
}
