-- the container's bound is the table's
use Rattle.mi_database.proofs.BoundLemmas.{within_one}
use Rattle.mi_database.proofs.sessions.LinkedSessions.upper_rank.Goals as goal

pub returns-clause-steps : goal.returns-clause-steps
returns-clause-steps g c = within_one _ _ _ _ c.at.ensures.table c.upper_rank.ensures.steps
