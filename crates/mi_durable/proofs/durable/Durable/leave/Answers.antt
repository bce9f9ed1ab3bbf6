-- A connection that holds none goes away, and the journal has nothing of that.
use Rattle.mi_durable.specs.Durable.{hub_of, log_of}
use Rattle.mi_durable.proofs.JournalLemmas.{leaves_so}
use Rattle.mi_durable.proofs.durable.Durable.leave.Goals as goal

pub returns-clause-journal : goal.returns-clause-journal
returns-clause-journal g c =
    leaves_so c.args.conn (hub_of c.args.self.now) _ (g.L.Log.appended (log_of c.args.self.now)) c.requires.none c.cut_off.ensures
