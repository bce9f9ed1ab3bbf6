-- No list is left.
use Rattle.mi_plain.proofs.RowLemmas.{moved-end}
use Rattle.mi_plain.proofs.ids.with_moved.Goals as goal

pub returns : goal.returns
returns c = moved-end _ _ _ _ _ _ _ _ c.loop-i-test.false c.loop-i.invariant
