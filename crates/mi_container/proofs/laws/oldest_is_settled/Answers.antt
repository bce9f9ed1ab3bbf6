-- The law is proved with the definitions.
use Rattle.mi_container.proofs.LawLemmas.{oldest_is_settled}
use Rattle.mi_container.proofs.laws.oldest_is_settled.Goals as goal

pub returns : goal.returns
returns c = oldest_is_settled
