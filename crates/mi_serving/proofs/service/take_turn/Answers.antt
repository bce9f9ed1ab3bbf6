-- Those that come give nobody anything, and then all of the list are served.
use Rattle.std.proofs.Common.{◌++◌, None}
use Rattle.std.proofs.lemmas.Result.{on_ok_weaker}
use Rattle.mi_durable.specs.Durable.{hub_of}
use Rattle.mi_clients.proofs.StepLemmas.{makes_then}
use Rattle.mi_clients.proofs.ServedLemmas.{serves_joined, stayers_ask}
use Rattle.mi_clients.specs.ServiceLines.{line_of}
use Rattle.mi_clients.proofs.TellLemmas.{is_told_joined}
use Rattle.mi_serving.specs.Link.{link_fd}
use Rattle.mi_clients.proofs.StreamLemmas.{streams_then, streams_stay}
use Rattle.mi_serving.proofs.TurnLemmas.{up_to_stay}
use Rattle.mi_serving.proofs.service.take_turn.Goals as goal

pub returns-clause-serves : goal.returns-clause-serves
returns-clause-serves g c =
    let came = c.in_ok-accept_all.ensures.comes in
    on_ok_weaker c.serve_all.result (λ served. (
      came.0 ++ served.0,
      serves_joined (λ _. None) came.0 served.0 c.args.clients.now.items c.accept_all.new.clients.items c.serve_all.new.clients.items came.1 came.2 served.1,
      makes_then came.0 served.0 _ (hub_of c.accept_all.new.durable) _ _ _ _ came.3 served.2,
      stayers_ask came.0 served.0 c.args.clients.now.items c.serve_all.new.clients.items came.4 served.3,
      is_told_joined (λ _. None) (line_of c.args.schema.now) c.args.seconds came.0 served.0 _ (hub_of c.accept_all.new.durable) _ _ _ _ c.args.clients.now.items
          c.accept_all.new.clients.items came.3 came.1 came.2 served.5 came.5,
    )) c.serve_all.ensures.serves

pub returns-clause-known : goal.returns-clause-known
returns-clause-known g c =
    on_ok_weaker c.serve_all.result
    (λ same. up_to_stay link_fd c.accept_all.new.last c.accept_all.new.clients.items c.serve_all.new.clients.items c.in_ok-accept_all.ensures.known same)
    c.serve_all.ensures.same

pub returns-clause-same : goal.returns-clause-same
returns-clause-same g c =
    on_ok_weaker c.serve_all.result (λ same. streams_then link_fd c.args.last.now c.accept_all.new.last c.args.clients.now.items c.accept_all.new.clients.items
    c.serve_all.new.clients.items c.in_ok-accept_all.ensures.rises c.in_ok-accept_all.ensures.same
    (streams_stay link_fd c.accept_all.new.last c.accept_all.new.clients.items c.serve_all.new.clients.items same)) c.serve_all.ensures.same
