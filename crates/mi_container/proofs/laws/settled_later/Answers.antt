-- The law is proved with the definitions.
use Rattle.mi_container.proofs.LawLemmas.{settled_later}
use Rattle.mi_container.proofs.laws.settled_later.Goals as goal

pub returns : goal.returns
returns c = settled_later
