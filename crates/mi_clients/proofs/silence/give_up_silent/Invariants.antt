use Rattle.mi_durable.specs.Durable.{hub_of, holder_conn}
use Rattle.mi_clients.specs.Silence.{IsJudged, limit_of}
use Rattle.mi_clients.proofs.ClientsLemmas.{DoneTo}
use Rattle.mi_clients.proofs.silence.give_up_silent.Given as goal

-- the first are judged, and the others are as they were
abbrev pub invariant-loop-client : goal.invariant-loop-client
invariant-loop-client g l = record {
  done : DoneTo (λ old new. IsJudged (limit_of l.fn.limits (holder_conn (hub_of l.fn.durable).held.holder) old.conn) l.fn.now old new)
      l.client-index l.fn.clients.items l.client-items;
}
