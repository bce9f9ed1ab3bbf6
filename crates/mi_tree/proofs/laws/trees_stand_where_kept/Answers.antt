-- The law is proved with the definitions, for any total order.
use Rattle.mi_tree.proofs.RetagLemmas.{tree_kept}
use Rattle.mi_tree.proofs.laws.trees_stand_where_kept.Goals as goal

pub returns : goal.returns
returns g c o = tree_kept (g.O.NodeOrder.order o) (g.O.NodeOrder.tag_of o) (g.met.O.NodeOrder.total o)
