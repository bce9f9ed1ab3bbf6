-- The law is proved with the definitions, for any total order whose tags are below.
use Rattle.mi_tree.proofs.FrameLemmas.{tree_swapped}
use Rattle.mi_tree.proofs.laws.trees_stand_where_swapped.Goals as goal

pub returns : goal.returns
returns g c o = tree_swapped (g.O.NodeOrder.order o) (g.O.NodeOrder.tag_of o) (g.met.O.NodeOrder.total o) (g.met.O.NodeOrder.tag_below o)
