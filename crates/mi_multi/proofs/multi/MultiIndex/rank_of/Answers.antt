-- The number of nodes before the row's is the number of ids before it.
use Rattle.mi_multi.proofs.CallLemmas.{sorted_reaches, absent, ranked, rank_is, one_look}
use Rattle.mi_multi.proofs.multi.MultiIndex.rank_of.Goals as goal

pub returns-in_default-clause-rank : goal.returns-in_default-clause-rank
returns-in_default-clause-rank c = absurd (absent c.self.inside c.self.invariant c.self.view_is c.args.id c.live.ensures c.in_default.is c.requires.id)

pub structure_at-requires : goal.structure_at-requires
structure_at-requires c = sorted_reaches c.self.inside c.self.invariant c.self.view_is c.args.index c.requires.index

pub rank-requires : goal.rank-requires
rank-requires c =
    ranked c.self.inside c.self.invariant c.self.view_is c.args.index c.structure_at.ensures c.args.id c.live.ensures c.in-Some.is c.requires.index

pub returns-clause-rank : goal.returns-clause-rank
returns-clause-rank c =
    rank_is c.self.inside c.self.invariant c.self.view_is c.args.index c.structure_at.ensures c.args.id c.live.ensures c.in-Some.is c.rank.ensures.rank

pub returns-clause-steps : goal.returns-clause-steps
returns-clause-steps c = one_look c.self.inside c.self.invariant c.self.view_is c.args.index c.structure_at.ensures c.args.steps.now.count c.rank.ensures.steps
