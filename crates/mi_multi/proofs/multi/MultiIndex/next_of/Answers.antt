-- The next node of the key's group is of the next id of the key.
use Rattle.std.proofs.Common.{◌∙◌}
use Rattle.mi_multi.proofs.CallLemmas.{absent}
use Rattle.mi_multi.proofs.KeyCallLemmas.{hashed_reaches, in_chains, next_of_held, next_of_is}
use Rattle.mi_multi.proofs.multi.MultiIndex.next_of.Goals as goal

pub returns-in_default : goal.returns-in_default
returns-in_default c = absurd (absent c.self.inside c.self.invariant c.self.view_is c.args.id c.live.ensures c.in_default.is c.requires.id)

pub structure_at-requires : goal.structure_at-requires
structure_at-requires c = hashed_reaches c.self.inside c.self.invariant c.self.view_is c.args.index c.requires.index

pub next_of-next-requires : goal.next_of-next-requires
next_of-next-requires c =
    in_chains c.self.inside c.self.invariant c.self.view_is c.args.index c.structure_at.ensures c.args.id c.live.ensures c.in-Some.is c.requires.index

pub id_of-requires : goal.id_of-requires
id_of-requires c =
    next_of_held c.self.inside c.self.invariant c.self.view_is c.args.index c.structure_at.ensures c.args.id c.live.ensures c.in-Some.is c.next_of-next.ensures

pub returns : goal.returns
returns c =
    c.id_of.ensures ∙ next_of_is c.self.inside c.self.invariant c.self.view_is c.args.index c.structure_at.ensures c.args.id c.live.ensures c.in-Some.is
    c.keeps_rules.ensures c.requires.index c.next_of-next.ensures
