-- All are asked of the tables, and then each is told what it asks of the service.
use Rattle.std.proofs.Common.{◌++◌, inl, refl}
use Rattle.std.proofs.lemmas.Result.{on_ok_weaker}
use Rattle.mi_durable.specs.Durable.{hub_of, log_of}
use Rattle.mi_clients.specs.Client.{IsServed}
use Rattle.mi_clients.specs.ServiceLines.{line_of}
use Rattle.mi_clients.specs.Steps.{given_to}
use Rattle.mi_clients.proofs.StepLemmas.{makes_then}
use Rattle.mi_clients.proofs.ServedLemmas.{CameKnown, each_then, zip_from, zip_both, in_from, in_to}
use Rattle.mi_clients.proofs.TellLemmas.{each_heard, each_came_told, opens_told, whole_told, same_told, read_told, breaks_told, quiet_so, so_join}
use Rattle.mi_clients.proofs.clients.hear_all.Goals as goal

pub returns-clause-serves : goal.returns-clause-serves
returns-clause-serves g c =
    let contents = g.S.Duplex.contents in
    let asked = c.in_ok-ask_all.ensures.serves in
    let a = c.args.clients.now.items in
    let b = c.ask_all.new.clients.items in
    let m = c.tell_all.new.clients.items in
    let schema = line_of c.args.schema.now in
    on_ok_weaker c.tell_all.result (λ told. (
      asked.0 ++ told.0,
      each_then contents asked.0 told.0 a b m asked.1 told.5,
      makes_then asked.0 told.0 _ (hub_of c.ask_all.new.durable) _ _ _ _ asked.2 told.7,
      opens_told asked.0 told.0 b m asked.3 told.6 told.3,
      each_came_told contents g.S.Duplex.remaining asked.0 told.0 a b m asked.1 asked.4 told.6 told.3,
      each_heard asked.0 told.0 b m c.in_ok-ask_all.ensures.asked told.6 told.3,
      record {
        first = asked.0;
        later = told.0;
        parts = refl;
        hub = hub_of c.ask_all.new.durable;
        appended = g.L.Log.appended (log_of c.ask_all.new.durable);
        stays = g.L.Log.synced (log_of c.ask_all.new.durable);
        room = g.L.Log.room_left (log_of c.ask_all.new.durable);
        makes = asked.2;
        clients = b;
        attends = c.in_ok-ask_all.ensures.attends;
        from = λ x h.
            let r = zip_from (λ old new. IsServed contents (given_to old.conn asked.0) old new
            × CameKnown g.S.Duplex.remaining asked.0 old new) a b x
            (zip_both (λ old new. IsServed contents (given_to old.conn asked.0) old new)
            (λ old new. CameKnown g.S.Duplex.remaining asked.0 old new) a b asked.1 asked.4) (in_from b x h) in
            (r.0, inl (in_to a r.0 r.1), r.2.0, r.2.1.0.4, r.2.1.1);
        status = told.1;
        «is» = told.2;
        told = so_join told.1 schema asked.0 told.0 (quiet_so told.1 schema asked.0 asked.5) told.4;
      },
    )) c.tell_all.ensures.tells

pub returns-clause-whole : goal.returns-clause-whole
returns-clause-whole g c =
    on_ok_weaker c.tell_all.result (λ told. whole_told told.0 c.ask_all.new.clients.items c.tell_all.new.clients.items c.in_ok-ask_all.ensures.whole told.6)
    c.tell_all.ensures.tells

pub returns-clause-same : goal.returns-clause-same
returns-clause-same g c =
    on_ok_weaker c.tell_all.result (λ told.
    same_told g.S.Duplex.handle told.0 c.args.clients.now.items c.ask_all.new.clients.items c.tell_all.new.clients.items c.in_ok-ask_all.ensures.same told.6)
    c.tell_all.ensures.tells

pub returns-clause-read : goal.returns-clause-read
returns-clause-read g c =
    on_ok_weaker c.tell_all.result (λ told.
    read_told g.S.Duplex.reads told.0 c.args.clients.now.items c.ask_all.new.clients.items c.tell_all.new.clients.items c.in_ok-ask_all.ensures.read told.6)
    c.tell_all.ensures.tells

pub returns-clause-broken : goal.returns-clause-broken
returns-clause-broken g c =
    on_ok_weaker c.tell_all.result (λ told breaks.
    breaks_told g.S.Duplex.has_failed told.0 c.ask_all.new.clients.items c.tell_all.new.clients.items (c.in_ok-ask_all.ensures.broken breaks) told.6)
    c.tell_all.ensures.tells
