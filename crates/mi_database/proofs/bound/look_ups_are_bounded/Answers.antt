-- The law is proved with the definitions.
use Rattle.mi_database.proofs.BoundLemmas.{look_ups_are_bounded}
use Rattle.mi_database.proofs.bound.look_ups_are_bounded.Goals as goal

pub returns : goal.returns
returns c = look_ups_are_bounded
