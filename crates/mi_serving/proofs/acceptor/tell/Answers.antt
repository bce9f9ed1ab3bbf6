-- An event of a listener tells nobody.
use Rattle.mi_clients.proofs.ServedLemmas.{each_woken_none}
use Rattle.mi_serving.proofs.acceptor.tell.Goals as goal

pub returns-then-eq-clause-woken : goal.returns-then-eq-clause-woken
returns-then-eq-clause-woken c = each_woken_none c.args.clients.now.items

pub returns-then-eq-2-clause-woken : goal.returns-then-eq-2-clause-woken
returns-then-eq-2-clause-woken c = each_woken_none c.args.clients.now.items
