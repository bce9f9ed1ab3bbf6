-- The first node past the key is of the first id past it.
use Rattle.std.proofs.Common.{◌∙◌}
use Rattle.mi_multi.proofs.CallLemmas.{sorted_reaches, in_order, one_look}
use Rattle.mi_multi.proofs.KeyCallLemmas.{past_held, past_is}
use Rattle.mi_multi.proofs.multi.MultiIndex.bound.Goals as goal

pub structure_at-structure-requires : goal.structure_at-structure-requires
structure_at-structure-requires c = sorted_reaches c.self.inside c.self.invariant c.self.view_is c.args.index c.requires

pub bound-node-requires : goal.bound-node-requires
bound-node-requires c = in_order c.self.inside c.self.invariant c.self.view_is c.args.index c.structure_at-structure.ensures c.requires

pub id_of-requires : goal.id_of-requires
id_of-requires c =
    past_held c.self.inside c.self.invariant c.self.view_is c.args.index c.structure_at-structure.ensures c.args.is_upper c.args.key
    c.bound-node.ensures.node

pub returns-clause-id : goal.returns-clause-id
returns-clause-id c =
    c.id_of.ensures ∙ past_is c.self.inside c.self.invariant c.self.view_is c.args.index c.structure_at-structure.ensures c.requires c.args.is_upper c.args.key
    c.bound-node.ensures.node

pub returns-clause-steps : goal.returns-clause-steps
returns-clause-steps c =
    one_look c.self.inside c.self.invariant c.self.view_is c.args.index c.structure_at-structure.ensures c.args.steps.now.count c.bound-node.ensures.steps
