-- The law is proved with the definitions.
use Rattle.mi_tree.proofs.HeightLemmas.{has_enough}
use Rattle.mi_tree.proofs.laws.trees_have_enough.Goals as goal

pub returns : goal.returns
returns c = has_enough
