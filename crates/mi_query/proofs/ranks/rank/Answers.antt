-- A record that isn't there has no rank.
use Rattle.std.proofs.Common.{sym, ◌∙◌}
use Rattle.mi_query.proofs.LookUpLemmas.{ranked, not_ranked}
use Rattle.mi_query.proofs.ranks.rank.Goals as goal

pub returns-in-Some-clause-rank : goal.returns-in-Some-clause-rank
returns-in-Some-clause-rank g c = ranked _ _ _ (sym c.in-Some.is ∙ c.rank.ensures.rank)

pub returns-in-None-clause-rank : goal.returns-in-None-clause-rank
returns-in-None-clause-rank g c = not_ranked _ _ (sym c.in-None.is ∙ c.rank.ensures.rank)
