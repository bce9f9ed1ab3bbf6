-- Where the port is listened on, what is served is what the listener's connections are served.
use Rattle.std.proofs.Common.{subst, sym}
use Rattle.mi_program.specs.Turns.{all_noted}
use Rattle.mi_program.specs.Serving.{ServesClients}
use Rattle.mi_program.proofs.ServingLemmas.{serves_clients}
use Rattle.mi_program.proofs.program.serve_port.Goals as goal

pub returns : goal.returns
returns g c = subst (ServesClients _ _ _ c.args.clients) (sym c.answered.ensures)
    (serves_clients _ _ _ c.args.clients c.new-hub.result c.serve_listener-served.new.hub c.new-hub.ensures c.serve_listener-served.result _
    c.serve_listener-served.ensures.served c.serve_listener-served.ensures.turns)
