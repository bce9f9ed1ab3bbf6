-- Its parts stand one behind another.
use Rattle.std.specs.String.{string_bytes}
use Rattle.std.proofs.lemmas.Result.{on_ok_weaker}
use Rattle.mi_clients.proofs.TellLemmas.{status_joined}
use Rattle.mi_clients.proofs.status.add_status.Goals as goal

pub returns : goal.returns
returns g c =
    on_ok_weaker c.add_database.result (λ added.
    status_joined c.args.clients.now c.args.hub.now c.args.figures.now.journal c.args.figures.now.seconds c.args.figures.now.memories.items c.holder-holder.result (g.D.Sessions.state c.database.result.now) (string_bytes c.args.text.now)
    (string_bytes c.push_str.new.self) (string_bytes c.add_connections.new.text) (string_bytes c.add_database.new.text)
    c.holder-holder.ensures.is c.database.ensures c.in_ok-push_str.ensures.bytes c.in_ok-add_connections.ensures added) c.add_database.ensures
