use Rattle.std.proofs.Common.{◌≡◌}
use Rattle.mi_clients.proofs.EndingLemmas.{NoneTo}
use Rattle.mi_clients.proofs.ending.next_end.Given as goal

-- nothing is noted of the first, and the list is as it was
abbrev pub invariant-clients : goal.invariant-clients
invariant-clients g l = record {
  same : l.clients.items ≡ l.fn.clients.items;
  none : NoneTo l.i l.fn.clients.items;
}
