-- What each is owed behind its lines is sent, and then those that are over go.
use Rattle.std.proofs.Common.{◌++◌, ◌∙◌}
use Rattle.std.proofs.lemmas.Result.{on_ok_weaker}
use Rattle.mi_durable.specs.Durable.{hub_of}
use Rattle.mi_clients.proofs.StepLemmas.{makes_then, makes_kept}
use Rattle.mi_clients.specs.Client.{IsSent, IsWhole}
use Rattle.mi_clients.proofs.ServedLemmas.{on_ok_both, on_ok_four, serves_each, opens_all, all_left, stayers_asked}
use Rattle.mi_clients.specs.ServiceLines.{line_of}
use Rattle.mi_clients.proofs.TellLemmas.{is_told_on, none_quiet}
use Rattle.mi_clients.proofs.StreamLemmas.{stayers_same, stayers_read, none_failed}
use Rattle.mi_clients.proofs.clients.serve_all.Goals as goal

pub returns-clause-serves : goal.returns-clause-serves
returns-clause-serves g c =
    let contents = g.S.Duplex.contents in
    let asked = c.in_ok-hear_all.ensures.serves in
    let sent = c.in_ok-send_all.ensures in
    let a = c.args.clients.now.items in
    let b = c.hear_all.new.clients.items in
    let d = c.send_all.new.clients.items in
    on_ok_four c.let_go.result (λ gone stay same number.
    let e = c.let_go.new.clients.items in (
      asked.0 ++ gone.0,
      serves_each contents asked.0 gone.0 a b d e gone.1 asked.1 asked.5 sent.sends sent.inputs gone.2 stay,
      makes_then asked.0 gone.0 _ (hub_of c.send_all.new.durable) _ _ _ _
          (makes_kept asked.0 _ (hub_of c.hear_all.new.durable) _ _ _ _ asked.2 sent.hub sent.appended) gone.3,
      opens_all contents asked.0 gone.0 b d e sent.sends sent.far sent.inputs asked.3 gone.2 gone.4,
      stayers_asked contents g.S.Duplex.remaining asked.0 gone.0 a b d e asked.4 sent.sends asked.1 sent.unread sent.inputs sent.far gone.2 gone.5,
      is_told_on contents (line_of c.args.schema.now) c.args.seconds asked.0 gone.0 _ _ _ _ _ _ a asked.6 (none_quiet gone.0 gone.3.acts _ _ gone.3.done gone.1)
          (same ∙ sent.room) (number ∙ sent.segment),
    )) c.let_go.ensures.goes c.let_go.ensures.stay c.let_go.ensures.room c.let_go.ensures.segment

pub returns-clause-sent : goal.returns-clause-sent
returns-clause-sent g c =
    on_ok_weaker c.let_go.result (λ gone.
    all_left (λ x. IsSent x) c.send_all.new.clients.items c.let_go.new.clients.items gone.2 c.in_ok-send_all.ensures.sent) c.let_go.ensures.goes

pub returns-clause-whole : goal.returns-clause-whole
returns-clause-whole g c =
    on_ok_weaker c.let_go.result (λ gone.
    all_left (λ x. ¬ IsWhole x) c.send_all.new.clients.items c.let_go.new.clients.items gone.2 (c.in_ok-send_all.ensures.whole c.in_ok-hear_all.ensures.whole))
    c.let_go.ensures.goes

pub returns-clause-same : goal.returns-clause-same
returns-clause-same g c =
    on_ok_weaker c.let_go.result (λ gone.
    stayers_same g.S.Duplex.handle c.args.clients.now.items c.hear_all.new.clients.items c.send_all.new.clients.items c.let_go.new.clients.items
    c.in_ok-hear_all.ensures.same c.in_ok-send_all.ensures.same gone.2) c.let_go.ensures.goes

pub returns-clause-read : goal.returns-clause-read
returns-clause-read g c =
    on_ok_weaker c.let_go.result (λ gone.
    stayers_read g.S.Duplex.handle g.S.Duplex.reads c.args.clients.now.items c.hear_all.new.clients.items c.send_all.new.clients.items c.let_go.new.clients.items
    c.in_ok-hear_all.ensures.same c.in_ok-hear_all.ensures.read c.in_ok-send_all.ensures.same c.in_ok-send_all.ensures.uncounted gone.2) c.let_go.ensures.goes

pub returns-clause-broken : goal.returns-clause-broken
returns-clause-broken g c =
    on_ok_both c.let_go.result (λ gone stay breaks.
    none_failed g.S.Duplex.has_failed c.send_all.new.clients.items c.let_go.new.clients.items
    (c.in_ok-send_all.ensures.broken (c.in_ok-hear_all.ensures.broken breaks)) gone.2 stay) c.let_go.ensures.goes c.let_go.ensures.stay
