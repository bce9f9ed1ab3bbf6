-- The node of a live row has one before it in the index, which is of the id before.
use Rattle.std.proofs.Common.{◌∙◌}
use Rattle.mi_multi.proofs.CallLemmas.{listed_reaches, absent, between, before_held, before_is}
use Rattle.mi_multi.proofs.multi.MultiIndex.before.Goals as goal

pub returns-in_default : goal.returns-in_default
returns-in_default c = absurd (absent c.self.inside c.self.invariant c.self.view_is c.args.id c.live.ensures c.in_default.is c.requires.id)

pub structure_at-requires : goal.structure_at-requires
structure_at-requires c = listed_reaches c.self.inside c.self.invariant c.self.view_is c.args.index c.requires.index

pub prev-prev-requires : goal.prev-prev-requires
prev-prev-requires c =
    between c.self.inside c.self.invariant c.self.view_is c.args.index c.structure_at.ensures c.args.id c.live.ensures c.in-Some.is c.requires.index

pub id_of-requires : goal.id_of-requires
id_of-requires c =
    before_held c.self.inside c.self.invariant c.self.view_is c.args.index c.structure_at.ensures c.args.id c.live.ensures c.in-Some.is c.prev-prev.ensures

pub returns : goal.returns
returns c =
    c.id_of.ensures ∙ before_is c.self.inside c.self.invariant c.self.view_is c.args.index c.structure_at.ensures c.args.id c.live.ensures c.in-Some.is
    c.prev-prev.ensures
