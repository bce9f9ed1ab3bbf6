-- The first node of the key in its structure is of the first id of the key.
use Rattle.std.proofs.Common.{◌∙◌}
use Rattle.mi_value.specs.declared.bound.Probe.TheVariants.{Key}
use Rattle.mi_container.proofs.KeyLemmas.{whole_asked}
use Rattle.mi_multi.proofs.KeyCallLemmas.{keyed_reaches, in_some, sought_held, find_is}
use Rattle.mi_multi.proofs.multi.MultiIndex.find.Goals as goal

pub structure_at-structure-requires : goal.structure_at-structure-requires
structure_at-structure-requires c = keyed_reaches c.self.inside c.self.invariant c.self.view_is c.args.index c.requires.index

pub find-node-requires : goal.find-node-requires
find-node-requires c = in_some c.self.inside c.self.invariant c.self.view_is c.args.index c.structure_at-structure.ensures

pub id_of-requires : goal.id_of-requires
id_of-requires c = sought_held c.self.inside c.self.invariant c.self.view_is c.args.index c.structure_at-structure.ensures (Key c.args.key) c.find-node.ensures.node

pub returns : goal.returns
returns c =
    c.id_of.ensures ∙ find_is c.self.inside c.self.invariant c.self.view_is c.args.index c.structure_at-structure.ensures c.args.key c.keeps_rules.ensures
    c.requires.index (whole_asked _ _ _ c.args.key.now c.requires.key) c.find-node.ensures.node
