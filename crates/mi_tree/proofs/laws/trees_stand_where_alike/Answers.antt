-- The law is proved with the definitions, for any total order whose tags are below.
use Rattle.mi_tree.proofs.FrameLemmas.{tree_where}
use Rattle.mi_tree.proofs.laws.trees_stand_where_alike.Goals as goal

pub returns : goal.returns
returns g c o = tree_where (g.O.NodeOrder.order o) (g.O.NodeOrder.tag_of o) (g.met.O.NodeOrder.total o) (g.met.O.NodeOrder.tag_below o)
