-- The law is proved with the definitions.
use Rattle.mi_tree.proofs.FrameLemmas.{tree_empty}
use Rattle.mi_tree.proofs.laws.new_trees_are_empty.Goals as goal

pub returns : goal.returns
returns g c = tree_empty
