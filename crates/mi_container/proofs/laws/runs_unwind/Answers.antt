-- The law is proved with the definitions.
use Rattle.mi_container.proofs.RunLemmas.{runs_unwind}
use Rattle.mi_container.proofs.laws.runs_unwind.Goals as goal

pub returns : goal.returns
returns c = runs_unwind
