-- Behind an id that isn't there stands nothing, and behind one that is, the next.
use Rattle.std.proofs.Common.{◌≡◌, false, true, ap, rules}
use Rattle.std.specs.Prelude.{Ok}
use Rattle.mi_model.specs.Verdict.{has_place}
use Rattle.mi_model.specs.Database.{table_of}
use Rattle.mi_query.proofs.pages.first_behind.Goals as goal

pub returns-then-is_none-clause-first : goal.returns-then-is_none-clause-first
returns-then-is_none-clause-first g c =
    let none : has_place (table_of (g.D.Sessions.state c.args.db.now) c.args.table) c.args.after ≡ false = search rules in
    rw none

pub returns-clause-first : goal.returns-clause-first
returns-clause-first g c =
    let there : has_place (table_of (g.D.Sessions.state c.args.db.now) c.args.table) c.args.after ≡ true = search rules in
    rw (there, c.in-Some.is) (ap Ok c.after.ensures)
