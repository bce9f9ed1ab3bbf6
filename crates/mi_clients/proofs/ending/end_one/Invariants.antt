use Rattle.mi_clients.specs.Ending.{IsEnded}
use Rattle.mi_clients.proofs.ClientsLemmas.{DoneTo}
use Rattle.mi_clients.proofs.ending.end_one.Given as goal

-- the first are ended, and the others are as they were
abbrev pub invariant-loop-client : goal.invariant-loop-client
invariant-loop-client g l = record {
  done : DoneTo (λ old new. IsEnded l.fn.conn old new) l.client-index l.fn.clients.items l.client-items;
}
