-- The size of the table that was named.
use Rattle.mi_query.proofs.ranks.size.Goals as goal

pub returns : goal.returns
returns g c = c.size.ensures
