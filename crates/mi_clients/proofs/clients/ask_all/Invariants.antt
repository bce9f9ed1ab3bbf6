use Rattle.std.proofs.Common.{List}
use Rattle.mi_durable.specs.Durable.{hub_of, log_of, IsSettled}
use Rattle.mi_clients.specs.Steps.{Step, Makes, TellsNone}
use Rattle.mi_clients.specs.Clients.{ids, Attends, EachServed, OpenOnlyAsk}
use Rattle.mi_clients.specs.Client.{IsAsked}
use Rattle.mi_clients.proofs.ClientsLemmas.{HoldsTo, DoneTo}
use Rattle.mi_clients.proofs.StreamLemmas.{Attended}
use Rattle.mi_clients.proofs.ServedLemmas.{AskedTo, CameKnown}
use Rattle.mi_clients.proofs.clients.ask_all.Given as goal

-- the list stays what the hub has attached, the first are asked, each was given the replies to its own lines, and no session of an open one was
-- undone
abbrev pub invariant-loop-client : goal.invariant-loop-client
invariant-loop-client g l = record {
  attends : Attends (ids l.client-items) (hub_of l.durable).attached;
  settled : IsSettled g.L.Log.appended g.L.Log.synced l.durable;
  steps : List Step;
  asked : HoldsTo (λ c. IsAsked c) l.client-index l.client-items;
  each : EachServed g.S.Duplex.contents steps l.fn.clients.items l.client-items;
  done : DoneTo (λ old new. Attended g.S.Duplex.handle g.S.Duplex.reads g.S.Duplex.has_failed old new) l.client-index l.fn.clients.items l.client-items;
  came : AskedTo (λ zs o y. CameKnown g.S.Duplex.remaining zs o y) steps l.client-index l.fn.clients.items l.client-items;
  quiet : TellsNone steps;
  opens : OpenOnlyAsk steps l.client-items;
  makes : Makes steps (hub_of l.fn.durable) (hub_of l.durable) (g.L.Log.appended (log_of l.fn.durable)) (g.L.Log.appended (log_of l.durable));
}
