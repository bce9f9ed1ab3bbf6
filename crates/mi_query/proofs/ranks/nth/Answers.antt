-- The id at the place that was named.
use Rattle.mi_query.proofs.ranks.nth.Goals as goal

pub returns : goal.returns
returns g c = c.nth.ensures
