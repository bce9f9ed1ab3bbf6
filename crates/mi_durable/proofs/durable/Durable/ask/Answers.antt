-- The line is asked, and what is noted of it is what the journal has.
use Rattle.std.proofs.lemmas.Result.{on_ok_weaker}
use Rattle.mi_durable.specs.Durable.{hub_of, log_of}
use Rattle.mi_durable.proofs.JournalLemmas.{asks_by}
use Rattle.mi_durable.proofs.durable.Durable.ask.Goals as goal

pub returns-in-Ok-clause-ok : goal.returns-in-Ok-clause-ok
returns-in-Ok-clause-ok g c =
    let asked = c.in-Ok.ensures.ok in
    on_ok_weaker c.note.result (λ appended. (
      asked.0,
      asked.1,
      rw c.note.ensures.hub (asks_by c.args.conn c.args.line.now asked.0 c.in-Ok.changed (hub_of c.args.self.now) c.ask_line.new.self
          c.requires.attached c.requires.whole asked.2 c.ask_line.ensures.attached (g.L.Log.appended (log_of c.args.self.now))
          (g.L.Log.appended (log_of c.note.new.self)) appended),
    )) c.note.ensures.ok
