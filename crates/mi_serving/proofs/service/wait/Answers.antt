-- Where the wait fails nobody is told.
use Rattle.mi_clients.proofs.ServedLemmas.{each_woken_none}
use Rattle.mi_serving.proofs.service.wait.Goals as goal

pub returns-in_err-wait-clause-woken : goal.returns-in_err-wait-clause-woken
returns-in_err-wait-clause-woken c = each_woken_none c.args.clients.now.items
