use Rattle.std.proofs.Common.{◌≡◌, List}
use Rattle.mi_durable.specs.Durable.{hub_of, log_of, IsSettled}
use Rattle.mi_clients.specs.Client.{Takes}
use Rattle.mi_clients.specs.Clients.{ids, Attends, EachServed}
use Rattle.mi_clients.specs.ServiceLines.{line_of}
use Rattle.mi_clients.specs.Steps.{Step, Makes, AllTell, TellsSo, asked_by}
use Rattle.mi_clients.proofs.ServedLemmas.{AskedTo}
use Rattle.mi_clients.proofs.telling.tell_each.Given as goal

-- the list stays what the hub has attached, and the first were told what they asked of the service
abbrev pub invariant-loop-client : goal.invariant-loop-client
invariant-loop-client g l = record {
  attends : Attends (ids l.client-items) (hub_of l.durable).attached;
  settled : IsSettled g.L.Log.appended g.L.Log.synced l.durable;
  room : g.L.Log.lacks_room (log_of l.durable) ≡ g.L.Log.lacks_room (log_of l.fn.durable);
  segment : g.L.Log.segment (log_of l.durable) ≡ g.L.Log.segment (log_of l.fn.durable);
  steps : List Step;
  all : AllTell steps;
  so : TellsSo l.fn.status (line_of l.fn.schema) steps;
  each : EachServed g.S.Duplex.contents steps l.fn.clients.items l.client-items;
  takes : AskedTo (λ zs o y. Takes (asked_by o.conn zs) o y) steps l.client-index l.fn.clients.items l.client-items;
  makes : Makes steps (hub_of l.fn.durable) (hub_of l.durable) (g.L.Log.appended (log_of l.fn.durable)) (g.L.Log.appended (log_of l.durable));
}
