-- The law is proved with the definitions.
use Rattle.mi_container.proofs.LawLemmas.{opens_empty}
use Rattle.mi_container.proofs.laws.opens_empty.Goals as goal

pub returns : goal.returns
returns c = opens_empty
