-- The first node of a record's key in a unique index is of the row that has it.
use Rattle.std.proofs.Common.{◌∙◌}
use Rattle.mi_value.specs.declared.bound.Probe.TheVariants.{Of}
use Rattle.mi_multi.proofs.KeyCallLemmas.{in_some, sought_held}
use Rattle.mi_multi.proofs.ConflictLemmas.{unique_reaches, holder_is}
use Rattle.mi_multi.proofs.multi.MultiIndex.holder.Goals as goal

pub structure_at-structure-requires : goal.structure_at-structure-requires
structure_at-structure-requires c =
    unique_reaches c.self.inside c.self.invariant c.args.self.now c.self.view_is c.args.index c.requires.declared c.requires.there

pub find-node-requires : goal.find-node-requires
find-node-requires c = in_some c.self.inside c.self.invariant c.self.view_is c.args.index c.structure_at-structure.ensures

pub id_of-requires : goal.id_of-requires
id_of-requires c = sought_held c.self.inside c.self.invariant c.self.view_is c.args.index c.structure_at-structure.ensures (Of c.args.row) c.find-node.ensures.node

pub returns : goal.returns
returns c =
    c.id_of.ensures ∙ holder_is c.self.inside c.self.invariant c.args.self.now c.self.view_is c.args.index c.requires.declared c.requires.there
    c.structure_at-structure.result.now c.structure_at-structure.ensures c.args.row c.find-node.result c.keeps_rules.ensures c.requires.alone
    c.find-node.ensures.node
