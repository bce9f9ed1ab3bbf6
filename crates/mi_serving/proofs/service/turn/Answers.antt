-- The steps of the list, then who has waited comes, and the one beside it is attended to.
use Rattle.std.proofs.Common.{refl, sym, ap, subst}
use Rattle.mi_durable.specs.Durable.{hub_of, log_of}
use Rattle.mi_clients.specs.ServiceLines.{line_of}
use Rattle.mi_clients.specs.declared.beside.Beside.{Beside}
use Rattle.mi_serving.specs.declared.link.Link.{Link}
use Rattle.mi_serving.specs.Overflow.{WaitsUpTo}
use Rattle.mi_serving.proofs.OverflowLemmas.{waits_more, waits_placed, up_to_placed, attended_there}
use Rattle.mi_serving.proofs.TurnLemmas.{up_to_more}
use Rattle.mi_serving.proofs.service.turn.Goals as goal

pub returns-clause-turns : goal.returns-clause-turns
returns-clause-turns g c =
    let clients = c.in_ok-take_turn.ensures.serves in
    let came = c.in_ok-place.ensures.comes in record {
      first = clients.0;
      comes = came.0;
      mid = hub_of c.take_turn.new.durable;
      kept = g.L.Log.appended (log_of c.take_turn.new.durable);
      clients = c.take_turn.new.clients.items;
      lacked = g.L.Log.lacks_room (log_of c.take_turn.new.durable);
      number = g.L.Log.segment (log_of c.take_turn.new.durable);
      serves = clients.1;
      makes = clients.2;
      stayers = clients.3;
      tells = clients.4;
      admits = came.3;
      none = came.1;
      quiet = came.5;
      alone = came.4;
      joins = came.2;
      at = c.place.new.self;
      placed = c.in_ok-place.ensures.placed;
      attended = attended_there (g.L.Log.appended (log_of c.place.new.durable)) (g.L.Log.synced (log_of c.place.new.durable))
          (g.L.Log.lacks_room (log_of c.place.new.durable)) (g.L.Log.room_left (log_of c.place.new.durable)) (g.L.Log.segment (log_of c.place.new.durable)) c.args.seconds (hub_of c.place.new.durable) (line_of c.args.schema.now) c.as_slice.result.now c.place.new.clients.items c.place.new.self.beside.client
          c.serve.new.self.beside.client c.receive.new.overflow.beside.client c.as_slice.ensures.value
          (ap (λ (b : Beside Link). b.client) c.receive.ensures.beside) c.serve.ensures.attended;
    }

pub returns-clause-known : goal.returns-clause-known
returns-clause-known g c =
    up_to_more c.take_turn.new.last c.receive.new.last c.place.new.clients.items c.receive.ensures.rises
    (up_to_placed c.take_turn.new.last c.args.overflow.now.comer c.args.overflow.now c.place.new.self _ _ _ _
    (waits_more c.args.last.now c.take_turn.new.last c.args.overflow.now.comer c.take_turn.ensures.rises c.requires.waits)
    c.in_ok-take_turn.ensures.known c.in_ok-place.ensures.placed)

pub receive-requires-clause-waits : goal.receive-requires-clause-waits
receive-requires-clause-waits g c =
    subst (WaitsUpTo c.take_turn.new.last) (sym c.serve.ensures.comer)
    (waits_placed c.take_turn.new.last c.args.overflow.now.comer c.args.overflow.now c.place.new.self _ _ _ _ refl
    (waits_more c.args.last.now c.take_turn.new.last c.args.overflow.now.comer c.take_turn.ensures.rises c.requires.waits) c.in_ok-place.ensures.placed)
