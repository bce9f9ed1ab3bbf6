-- Memory is refused only where there was no room.
use Rattle.std.proofs.Common.{rules}
use Rattle.mi_database.proofs.linked.Linked.make_room.Goals as goal

pub returns-clause-short : goal.returns-clause-short
returns-clause-short g c = search rules
