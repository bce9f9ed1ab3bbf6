use Rattle.std.proofs.Common.{List, ◌≤◌}
use Rattle.mi_serving.specs.Link.{link_fd}
use Rattle.mi_durable.specs.Durable.{hub_of, log_of, IsSettled}
use Rattle.mi_clients.specs.Steps.{Step, Makes, GivesNone, AsksNone}
use Rattle.mi_clients.specs.Clients.{ids, Attends, Joins, AllOnlyAsk, SameStreams}
use Rattle.mi_serving.specs.Turns.{AllUpTo}
use Rattle.mi_serving.proofs.service.accept_all.Given as goal

-- the list stays what the hub has attached, and those that were there stay as they are
abbrev pub invariant-places : goal.invariant-places
invariant-places g l = record {
  attends : Attends (ids l.clients.items) (hub_of l.durable).attached;
  known : AllUpTo l.last l.clients.items;
  rises : l.fn.last ≤ l.last;
  same : SameStreams link_fd l.fn.last l.fn.clients.items l.clients.items;
  settled : IsSettled g.L.Log.appended g.L.Log.synced l.durable;
  steps : List Step;
  none : GivesNone steps;
  quiet : AsksNone steps;
  joins : Joins l.fn.clients.items l.clients.items;
  only : AllOnlyAsk steps (ids l.fn.clients.items);
  makes : Makes steps (hub_of l.fn.durable) (hub_of l.durable) (g.L.Log.appended (log_of l.fn.durable)) (g.L.Log.appended (log_of l.durable));
}
