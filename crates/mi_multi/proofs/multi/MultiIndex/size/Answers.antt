-- The live ids are as many as the rows.
use Rattle.mi_multi.proofs.CallLemmas.{in_order, count_is, id_sorted}
use Rattle.mi_multi.proofs.multi.MultiIndex.size.Goals as goal

pub node_count-requires : goal.node_count-requires
node_count-requires c =
    in_order c.self.inside c.self.invariant c.self.view_is 0 c.structure_at.ensures
    (id_sorted c.self.inside c.self.invariant c.self.view_is c.keeps_rules.ensures)

pub returns : goal.returns
returns c = count_is c.self.inside c.self.invariant c.self.view_is 0 c.structure_at.ensures c.node_count.ensures
