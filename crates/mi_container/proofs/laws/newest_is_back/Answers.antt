-- The law is proved with the definitions.
use Rattle.mi_container.proofs.LawLemmas.{newest_is_back}
use Rattle.mi_container.proofs.laws.newest_is_back.Goals as goal

pub returns : goal.returns
returns c = newest_is_back
