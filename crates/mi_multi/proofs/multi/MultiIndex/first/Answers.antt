-- The first node of the structure is of the first id that the index shows.
use Rattle.std.proofs.Common.{◌∙◌}
use Rattle.mi_multi.proofs.CallLemmas.{listed_reaches, in_list, first_held, first_is}
use Rattle.mi_multi.proofs.multi.MultiIndex.first.Goals as goal

pub structure_at-requires : goal.structure_at-requires
structure_at-requires c = listed_reaches c.self.inside c.self.invariant c.self.view_is c.args.index c.requires

pub first-node-requires : goal.first-node-requires
first-node-requires c = in_list c.self.inside c.self.invariant c.self.view_is c.args.index c.structure_at.ensures c.requires

pub id_of-requires : goal.id_of-requires
id_of-requires c = first_held c.self.inside c.self.invariant c.self.view_is c.args.index c.structure_at.ensures c.first-node.ensures

pub returns : goal.returns
returns c = c.id_of.ensures ∙ first_is c.self.inside c.self.invariant c.self.view_is c.args.index c.structure_at.ensures c.first-node.ensures
