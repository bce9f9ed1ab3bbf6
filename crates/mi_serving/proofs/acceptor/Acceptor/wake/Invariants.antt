use Rattle.std.proofs.Common.{◌≡◌, drop}
use Rattle.mi_clients.specs.Clients.{ids, EachWoken}
use Rattle.mi_serving.specs.Events.{told_by_all, called_by_all}
use Rattle.mi_serving.proofs.acceptor.Acceptor.wake.Given as goal

-- with those to come all are told; no number changes, and only what was told
abbrev pub invariant-events : goal.invariant-events
invariant-events l = record {
  told : told_by_all (drop l.event-index l.reported) l.clients.items ≡ told_by_all l.reported l.fn.clients.items;
  called : called_by_all (drop l.event-index l.reported) l.callers ≡ called_by_all l.reported l.fn.self.callers;
  ids : ids l.clients.items ≡ ids l.fn.clients.items;
  woken : EachWoken l.fn.clients.items l.clients.items;
}
