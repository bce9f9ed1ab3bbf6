-- the newest inverse is taken back
use Rattle.std.proofs.Common.{sym, ◌∙◌}
use Rattle.test_container.proofs.JournaledLemmas.{newest_back}
use Rattle.test_container.proofs.tests.journaled.Journaled.back.Goals as goal

pub returns-in-Some : goal.returns-in-Some
returns-in-Some g c =
    let was = c.args.self.now in
    newest_back was.schema (g.C.Container.shape was.rows) (g.C.Container.shape c.unwind.new.rows) (g.C.Container.plain was.rows)
    (g.C.Container.plain c.unwind.new.rows) (c.in-Some.table, c.in-Some.inverse) was.journal.sessions c.pop.new.self.sessions
    (sym c.in-Some.is ∙ c.pop.ensures.entry) c.pop.ensures.sessions c.unwind.ensures.shape c.unwind.ensures.plain c.requires
