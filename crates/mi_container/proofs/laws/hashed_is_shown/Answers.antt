-- The law is proved with the definitions.
use Rattle.mi_container.proofs.ViewLemmas.{hashed_is_shown}
use Rattle.mi_container.proofs.laws.hashed_is_shown.Goals as goal

pub returns : goal.returns
returns c = hashed_is_shown
