-- The number of nodes before the row's is the number of ids before it.
use Rattle.std.proofs.Common.{Some, None, ap, sym, ◌∙◌}
use Rattle.std.specs.Prelude.{if◌then◌else◌}
use Rattle.mi_model.specs.LookUp as look
use Rattle.mi_container.specs.Data.{as_table}
use Rattle.mi_multi.proofs.CallLemmas.{sorted_reaches, ranked, rank_is, one_look, isnt_there, is_there}
use Rattle.mi_multi.proofs.multi.MultiIndex.rank.Goals as goal

pub returns-in_default-clause-rank : goal.returns-in_default-clause-rank
returns-in_default-clause-rank c =
    let s = c.args.self.now in
    sym (ap (λ b. if b then Some (look.rank s.shape (as_table s.plain) c.args.index c.args.id) else None)
    (isnt_there c.self.inside c.self.invariant c.self.view_is c.args.id c.live.ensures c.in_default.is))

pub structure_at-structure-requires : goal.structure_at-structure-requires
structure_at-structure-requires c = sorted_reaches c.self.inside c.self.invariant c.self.view_is c.args.index c.requires

pub rank-requires : goal.rank-requires
rank-requires c =
    ranked c.self.inside c.self.invariant c.self.view_is c.args.index c.structure_at-structure.ensures c.args.id c.live.ensures c.in-Some.is c.requires

pub returns-clause-rank : goal.returns-clause-rank
returns-clause-rank c =
    let s = c.args.self.now in
    ap Some (rank_is c.self.inside c.self.invariant c.self.view_is c.args.index c.structure_at-structure.ensures
    c.args.id c.live.ensures c.in-Some.is c.rank.ensures.rank)
    ∙ sym (ap (λ b. if b then Some (look.rank s.shape (as_table s.plain) c.args.index c.args.id) else None)
    (is_there c.self.inside c.self.invariant c.self.view_is c.args.id c.live.ensures c.in-Some.is))

pub returns-clause-steps : goal.returns-clause-steps
returns-clause-steps c =
    one_look c.self.inside c.self.invariant c.self.view_is c.args.index c.structure_at-structure.ensures c.args.steps.now.count c.rank.ensures.steps
