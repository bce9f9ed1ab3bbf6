-- The law is proved with the definitions.
use Rattle.mi_container.proofs.ViewLemmas.{sorted_is_shown}
use Rattle.mi_container.proofs.laws.sorted_is_shown.Goals as goal

pub returns : goal.returns
returns c = sorted_is_shown
