-- what a ring has room for, but what it has
use Rattle.std.proofs.Common.{ap, arith}
use Rattle.mi_journal.specs.Noted.{Noted}
use Rattle.mi_journal.proofs.journal.Journal.room.Goals as goal

pub returns-clause-changes : goal.returns-clause-changes
returns-clause-changes g c =
    let was = ap (λ (v : Noted g.row.T.Denot). v.changes) c.self.view_is in omega (arith, was, c.capacity.ensures, c.len.ensures)
