-- the oldest inverse is settled
use Rattle.test_container.proofs.JournaledLemmas.{oldest_kept, oldest_settled}
use Rattle.test_container.proofs.tests.journaled.Journaled.settle.Goals as goal

pub settle-requires : goal.settle-requires
settle-requires g c =
    let was = c.args.self.now in
    oldest_kept was.schema (g.C.Container.shape was.rows) (g.C.Container.plain was.rows) (c.in-Some.table, c.in-Some.inverse) was.journal.sessions
    c.take_oldest.new.self.sessions c.keeps_rules.ensures c.in-Some.ensures.sessions c.requires

pub returns-in-Some : goal.returns-in-Some
returns-in-Some g c =
    let was = c.args.self.now in
    oldest_settled was.schema (g.C.Container.shape was.rows) (g.C.Container.shape c.settle.new.rows) (g.C.Container.plain was.rows)
    (g.C.Container.plain c.settle.new.rows) (c.in-Some.table, c.in-Some.inverse) was.journal.sessions c.take_oldest.new.self.sessions
    c.keeps_rules.ensures c.in-Some.ensures.sessions c.settle.ensures.shape c.settle.ensures.plain c.requires
