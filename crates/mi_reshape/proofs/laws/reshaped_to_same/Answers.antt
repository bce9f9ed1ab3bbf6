-- The law is proved with the definitions.
use Rattle.mi_reshape.proofs.SameLemmas.{reshaped_to_same}
use Rattle.mi_reshape.proofs.laws.reshaped_to_same.Goals as goal

pub returns : goal.returns
returns c = reshaped_to_same
