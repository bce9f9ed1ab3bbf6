-- As many nodes stand in front of the first past the key as there are keys that aren't past it.
use Rattle.mi_multi.proofs.CallLemmas.{sorted_reaches, in_order, one_look}
use Rattle.mi_multi.proofs.KeyCallLemmas.{bound_rank}
use Rattle.mi_multi.proofs.multi.MultiIndex.bound_rank.Goals as goal

pub structure_at-structure-requires : goal.structure_at-structure-requires
structure_at-structure-requires c = sorted_reaches c.self.inside c.self.invariant c.self.view_is c.args.index c.requires

pub bound_rank-requires : goal.bound_rank-requires
bound_rank-requires c = in_order c.self.inside c.self.invariant c.self.view_is c.args.index c.structure_at-structure.ensures c.requires

pub returns-clause-rank : goal.returns-clause-rank
returns-clause-rank c =
    bound_rank c.self.inside c.self.invariant c.self.view_is c.args.index c.structure_at-structure.ensures c.requires c.args.is_upper c.args.key
    c.bound_rank.ensures.rank

pub returns-clause-steps : goal.returns-clause-steps
returns-clause-steps c =
    one_look c.self.inside c.self.invariant c.self.view_is c.args.index c.structure_at-structure.ensures c.args.steps.now.count c.bound_rank.ensures.steps
