-- The room of the journal, changes before sessions.
use Rattle.std.proofs.Common.{rules}
use Rattle.mi_database.proofs.linked.Linked.room.Goals as goal

pub returns-clause-changes : goal.returns-clause-changes
returns-clause-changes g c = search rules

pub returns-clause-starts : goal.returns-clause-starts
returns-clause-starts g c = search rules
