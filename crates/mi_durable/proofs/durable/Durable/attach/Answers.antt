-- A connection that has come has sent nothing.
use Rattle.std.proofs.lemmas.Result.{on_ok_weaker}
use Rattle.mi_durable.specs.Durable.{hub_of}
use Rattle.mi_durable.proofs.JournalLemmas.{comes_empty}
use Rattle.mi_durable.proofs.durable.Durable.attach.Goals as goal

pub returns-clause-still : goal.returns-clause-still
returns-clause-still g c = on_ok_weaker c.attach.result (comes_empty c.args.conn (hub_of c.args.self.now) c.attach.new.self) c.attach.ensures.ok
