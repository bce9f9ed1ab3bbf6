use Rattle.std.proofs.Common.{◌≡◌, ◌-◌, List, length}
use Rattle.mi_durable.specs.Durable.{hub_of, log_of, IsSettled}
use Rattle.mi_clients.specs.Steps.{Step, Makes, GivesNone, AsksNone}
use Rattle.mi_clients.specs.Clients.{ids, Attends, LetsGo, OpenOnlyAsk}
use Rattle.mi_clients.specs.Client.{IsOver}
use Rattle.mi_clients.proofs.ClientsLemmas.{HoldsTo}
use Rattle.mi_clients.proofs.clients.let_go.Given as goal

-- the list stays what the hub has attached, and only those that are over have gone
abbrev pub invariant-clients : goal.invariant-clients
invariant-clients g l = record {
  attends : Attends (ids l.clients.items) (hub_of l.durable).attached;
  settled : IsSettled g.L.Log.appended g.L.Log.synced l.durable;
  gone : LetsGo l.fn.clients.items l.clients.items;
  stay : HoldsTo (λ c. ¬ IsOver c) l.at l.clients.items;
  room : g.L.Log.lacks_room (log_of l.durable) ≡ g.L.Log.lacks_room (log_of l.fn.durable);
  segment : g.L.Log.segment (log_of l.durable) ≡ g.L.Log.segment (log_of l.fn.durable);
  steps : List Step;
  none : GivesNone steps;
  quiet : AsksNone steps;
  opens : OpenOnlyAsk steps l.clients.items;
  makes : Makes steps (hub_of l.fn.durable) (hub_of l.durable) (g.L.Log.appended (log_of l.fn.durable)) (g.L.Log.appended (log_of l.durable));
}

abbrev pub decreases-clients : goal.decreases-clients
decreases-clients g l = length l.clients.items - l.at
