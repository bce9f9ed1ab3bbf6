-- the first ids rise so far
use Rattle.mi_container.proofs.RaiseLemmas.{FirstRise}
use Rattle.mi_multi.proofs.restoring.first_rising.Given as goal

abbrev pub invariant-ids : goal.invariant-ids
invariant-ids l = FirstRise l.ids l.place l.last
