-- the container's bound is the table's
use Rattle.mi_database.proofs.BoundLemmas.{within_two}
use Rattle.mi_database.proofs.sessions.LinkedSessions.count.Goals as goal

pub returns-clause-steps : goal.returns-clause-steps
returns-clause-steps g c = within_two _ _ _ _ c.at.ensures.table c.count.ensures.steps
