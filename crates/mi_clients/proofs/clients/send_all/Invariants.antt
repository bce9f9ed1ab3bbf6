use Rattle.std.proofs.Common.{◌≡◌, []}
use Rattle.std.specs.Io.KnownBytes.{Keeps}
use Rattle.mi_durable.specs.Durable.{hub_of, log_of, IsSettled}
use Rattle.mi_clients.specs.Client.{IsSent}
use Rattle.mi_clients.specs.Clients.{ids, inputs, Attends, EachServed, EachUnread, EachAsFar}
use Rattle.mi_clients.proofs.ClientsLemmas.{HoldsTo, DoneTo}
use Rattle.mi_clients.proofs.StreamLemmas.{Written}
use Rattle.mi_clients.proofs.clients.send_all.Given as goal

-- nothing is asked, what each is owed goes to its own stream, and the first are sent it
abbrev pub invariant-loop-client : goal.invariant-loop-client
invariant-loop-client g l = record {
  attends : Attends (ids l.client-items) (hub_of l.durable).attached;
  settled : IsSettled g.L.Log.appended g.L.Log.synced l.durable;
  sent : HoldsTo (λ c. IsSent c) l.client-index l.client-items;
  far : EachAsFar l.fn.clients.items l.client-items;
  unread : EachUnread g.S.Duplex.remaining l.fn.clients.items l.client-items;
  done : DoneTo (λ old new. Written g.S.Duplex.handle g.S.Duplex.reads g.S.Duplex.has_failed old new) l.client-index l.fn.clients.items l.client-items;
  inputs : inputs l.client-items ≡ inputs l.fn.clients.items;
  each : EachServed g.S.Duplex.contents [] l.fn.clients.items l.client-items;
  hub : hub_of l.durable ≡ hub_of l.fn.durable;
  appended : Keeps (g.L.Log.appended (log_of l.fn.durable)) (g.L.Log.appended (log_of l.durable));
  room : g.L.Log.lacks_room (log_of l.durable) ≡ g.L.Log.lacks_room (log_of l.fn.durable);
  segment : g.L.Log.segment (log_of l.durable) ≡ g.L.Log.segment (log_of l.fn.durable);
}
