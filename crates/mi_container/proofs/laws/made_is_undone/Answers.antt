-- The law is proved with the definitions.
use Rattle.mi_container.proofs.MadeLemmas.{made_is_undone}
use Rattle.mi_container.proofs.laws.made_is_undone.Goals as goal

pub returns : goal.returns
returns c = made_is_undone
