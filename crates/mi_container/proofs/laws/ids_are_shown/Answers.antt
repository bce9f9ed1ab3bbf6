-- The law is proved with the definitions.
use Rattle.mi_container.proofs.ViewLemmas.{ids_are_shown}
use Rattle.mi_container.proofs.laws.ids_are_shown.Goals as goal

pub returns : goal.returns
returns c = ids_are_shown
