-- One of the list is busy.
use Rattle.std.proofs.Common.{rules, tests}
use Rattle.std.proofs.lemmas.Iterator.{cases_from_any, YieldsList-from_slice}
use Rattle.mi_clients.specs.Client.{IsBusy}
use Rattle.mi_clients.specs.declared.client.Client.{Client}
use Rattle.mi_clients.proofs.ClientsLemmas.{any_of}
use Rattle.mi_clients.proofs.clients.is_any_busy.Goals as goal

pub returns : goal.returns
returns g c =
    let clients = c.args.clients.now in
    any_of (λ (x : Client _). IsBusy x) c.any.result clients
    (cases_from_any _ _ _ (λ (x : Client _). IsBusy x) (λ (x : Client _). ¬ IsBusy x) c.any.ensures.ran (YieldsList-from_slice clients cc)
    (λ x q k. search (rules, tests)) (λ x q k. search (rules, tests)))
