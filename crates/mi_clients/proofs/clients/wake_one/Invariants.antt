use Rattle.std.proofs.Common.{◌≡◌}
use Rattle.mi_clients.specs.Client.{told}
use Rattle.mi_clients.proofs.ClientsLemmas.{DoneTo}
use Rattle.mi_clients.proofs.clients.wake_one.Given as goal

-- the first were told, and the others are as they were
abbrev pub invariant-loop-client : goal.invariant-loop-client
invariant-loop-client g l = record {
  done : DoneTo (λ old new. new ≡ told l.fn.conn l.fn.readable l.fn.writable l.fn.closing old) l.client-index l.fn.clients.items l.client-items;
}
