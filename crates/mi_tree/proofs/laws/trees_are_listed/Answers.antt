-- The law is proved with the definitions.
use Rattle.mi_tree.proofs.FrameLemmas.{tree_listed}
use Rattle.mi_tree.proofs.laws.trees_are_listed.Goals as goal

pub returns : goal.returns
returns g c = tree_listed
