-- It is read, answered, settled and sent what it is owed.
use Rattle.std.proofs.Common.{ap}
use Rattle.mi_clients.specs.ServiceLines.{line_of}
use Rattle.mi_clients.specs.declared.client.Client.{Client}
use Rattle.mi_clients.proofs.ServedLemmas.{served_read}
use Rattle.mi_clients.proofs.BesideLemmas.{came_read, attended}
use Rattle.mi_clients.proofs.beside.attend.Goals as goal

pub returns : goal.returns
returns g c =
    let old = c.args.client.now in
    let b = c.read.new.self in
    let read = c.read.ensures in
    let n = c.answer_now.ensures in
    let settled = c.finish.ensures.same in
    let sent = c.send.ensures in (
      n.0,
      n.1,
      attended g.S.Duplex.contents g.S.Duplex.remaining n.0 (line_of c.args.schema.now) old b c.answer_now.new.client c.finish.new.client c.send.new.self
          (came_read g.S.Duplex.remaining old b read.piece.0 read.piece.1 read.piece.2 read.piece.3 read.opens read.lines)
          (served_read g.S.Duplex.contents old b read.same.0 read.contents read.owed read.broken) read.held read.ends read.owed n.2
          c.finish.ensures.settled c.finish.ensures.input (ap (λ (x : Client _). x.conn) settled) (ap (λ (x : Client _). x.stream) settled)
          (ap (λ (x : Client _). x.held) settled) (ap (λ (x : Client _). x.output) settled) (ap (λ (x : Client _). x.ends) settled)
          sent.sent sent.remaining sent.phase sent.input (ap (λ (x : Client _). x.conn) sent.same) (ap (λ (x : Client _). x.held) sent.same)
          (ap (λ (x : Client _). x.ends) sent.same) sent.all,
    )
