-- The node of a rank is of the id of that rank.
use Rattle.std.proofs.Common.{◌∙◌, arith}
use Rattle.mi_multi.proofs.CallLemmas.{sorted_reaches, in_order, nth_past, nth_held, nth_is}
use Rattle.mi_multi.proofs.multi.MultiIndex.nth.Goals as goal

pub structure_at-structure-requires : goal.structure_at-structure-requires
structure_at-structure-requires c = sorted_reaches c.self.inside c.self.invariant c.self.view_is c.args.index c.requires

pub returns-then-n : goal.returns-then-n
returns-then-n c =
    nth_past c.self.inside c.self.invariant c.self.view_is c.args.index c.structure_at-structure.ensures c.args.n c.requires
    (let l = c.if-n.true in omega arith)

pub nth-node-requires : goal.nth-node-requires
nth-node-requires c = in_order c.self.inside c.self.invariant c.self.view_is c.args.index c.structure_at-structure.ensures c.requires

pub id_of-requires : goal.id_of-requires
id_of-requires c = nth_held c.self.inside c.self.invariant c.self.view_is c.args.index c.structure_at-structure.ensures c.args.n c.nth-node.ensures

pub returns : goal.returns
returns c = c.id_of.ensures ∙ nth_is c.self.inside c.self.invariant c.self.view_is c.args.index c.structure_at-structure.ensures c.args.n c.nth-node.ensures
