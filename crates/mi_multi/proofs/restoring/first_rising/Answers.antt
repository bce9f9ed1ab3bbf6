-- One that is above the last one rises too.
use Rattle.std.proofs.Common.{arith}
use Rattle.mi_container.proofs.RaiseLemmas.{first_none, first_more}
use Rattle.mi_multi.proofs.restoring.first_rising.Goals.{else-place-gt0-via-then-place-gt0+else-id-last, else-place-gt0-via-else-place-gt0}
use Rattle.mi_multi.proofs.restoring.first_rising.Goals as goal

pub ids-init : goal.ids-init
ids-init c = first_none _ _

pub ids-preserved : goal.ids-preserved
ids-preserved c =
    first_more c.args.ids.now c.ids.place c.ids.last c.ids.invariant c.ids-test.true
    (λ some. elim c.else-place-gt0.branch [
      | else-place-gt0-via-then-place-gt0+else-id-last w ↦ w.if-id-last.false
      | else-place-gt0-via-else-place-gt0 w ↦ let none = w.if-place-gt0.false in absurd (omega (arith, none, some))
    ])
