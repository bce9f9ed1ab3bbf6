-- The rank that the database finds.
use Rattle.mi_query.proofs.ranks.lower_rank.Goals as goal

pub returns-clause-rank : goal.returns-clause-rank
returns-clause-rank g c = c.lower_rank.ensures.rank
