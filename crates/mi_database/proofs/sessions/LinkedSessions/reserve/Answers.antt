-- The room that was asked for is there.
use Rattle.std.proofs.Common.{rules}
use Rattle.mi_database.proofs.sessions.LinkedSessions.reserve.Goals as goal

pub returns-clause-room : goal.returns-clause-room
returns-clause-room g c = search rules
