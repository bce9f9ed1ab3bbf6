-- The law is proved with the definitions.
use Rattle.mi_container.proofs.LawLemmas.{kept_by_one}
use Rattle.mi_container.proofs.laws.kept_by_one.Goals as goal

pub returns : goal.returns
returns c = kept_by_one
