-- Where no line waits, or the first is none of the service's, it isn't at one of the service.
use Rattle.std.proofs.Common.{◌∙◌, sym}
use Rattle.mi_clients.specs.Input.{waiting}
use Rattle.mi_clients.proofs.TellLemmas.{other_line, line_waits}
use Rattle.mi_clients.proofs.client.Client.service_line.Goals as goal

pub returns-in_default : goal.returns-in_default
returns-in_default g c = λ may. line_waits (waiting c.args.self.now.input) may.1.0 may.1.1 may.1.2 may.1.4 c.in_default.ensures

pub returns-else-is_service : goal.returns-else-is_service
returns-else-is_service g c = λ may.
    other_line (waiting c.args.self.now.input) c.in-Some.line.now c.in-Some.ensures.1 c.in-Some.ensures.0
    (sym c.is_service.ensures ∙ c.if-is_service.false) c.in-Some.ensures.2 may.1
