-- The last node of the structure is of the last id that the index shows.
use Rattle.std.proofs.Common.{◌∙◌}
use Rattle.mi_multi.proofs.CallLemmas.{listed_reaches, in_list, last_held, last_is}
use Rattle.mi_multi.proofs.multi.MultiIndex.last.Goals as goal

pub structure_at-requires : goal.structure_at-requires
structure_at-requires c = listed_reaches c.self.inside c.self.invariant c.self.view_is c.args.index c.requires

pub last-node-requires : goal.last-node-requires
last-node-requires c = in_list c.self.inside c.self.invariant c.self.view_is c.args.index c.structure_at.ensures c.requires

pub id_of-requires : goal.id_of-requires
id_of-requires c = last_held c.self.inside c.self.invariant c.self.view_is c.args.index c.structure_at.ensures c.last-node.ensures

pub returns : goal.returns
returns c = c.id_of.ensures ∙ last_is c.self.inside c.self.invariant c.self.view_is c.args.index c.structure_at.ensures c.last-node.ensures
