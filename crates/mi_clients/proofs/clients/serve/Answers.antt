-- Its stream is read, its lines are asked, and then its sessions may be undone.
use Rattle.std.proofs.Common.{◌≡◌, ◌++◌, ◌∙◌, sym, ap, subst}
use Rattle.std.proofs.lemmas.Result.{on_ok_weaker}
use Rattle.mi_durable.specs.Durable.{hub_of}
use Rattle.mi_clients.specs.Client.{MayAsk, IsWhole}
use Rattle.mi_clients.specs.declared.client.Client.{Client}
use Rattle.mi_clients.specs.Steps.{AreAsks, AreUndos, asked_by}
use Rattle.mi_clients.proofs.StepLemmas.{makes_then}
use Rattle.mi_clients.specs.declared.input.Input.{Input}
use Rattle.mi_clients.proofs.SinceLemmas.{since_served}
use Rattle.mi_clients.proofs.ServedLemmas.{undos_taken, on_ok_all, on_ok_both, asked_still, served_read, served_whole, taken_in, asks_others, asks_alone, came_whole, went_on, on_alone, serve_asks_only}
use Rattle.mi_clients.proofs.TellLemmas.{quiet_join, asks_quiet, undos_quiet}
use Rattle.mi_clients.proofs.StreamLemmas.{same_owes, same_then, breaks_owes}
use Rattle.mi_clients.proofs.clients.serve.Goals as goal

pub returns-clause-serves : goal.returns-clause-serves
returns-clause-serves g c =
    let old = c.args.client.now in
    let read = c.read.new.self in
    let piece = c.read.ensures.piece in
    let asked = c.in_ok-ask_lines.ensures.asks in
    let far = c.in_ok-ask_lines.ensures.phase in
    let mid = c.ask_lines.new.client in
    let last = c.finish.new.client in
    let contents = g.S.Duplex.contents in
    let first = served_read contents old read c.read.ensures.same.0 c.read.ensures.contents c.read.ensures.owed c.read.ensures.broken in
    let own = subst (λ k. AreAsks k asked.0 asked.1 asked.2) c.read.ensures.same.0 asked.3 in
    on_ok_all c.finish.result (λ undone settled input.
    let gone = subst (λ k. AreUndos k undone.0) (asked.5.conn ∙ c.read.ensures.same.0) undone.1 in
    let all = served_whole contents old read mid last asked.0 undone.0 asked.1 asked.2 first own asked.5 gone undone.2 in (
      asked.0 ++ undone.0,
      all.0,
      all.1,
      makes_then asked.0 undone.0 _ (hub_of c.ask_lines.new.durable) _ _ _ _ asked.6 undone.3,
      came_whole g.S.Duplex.remaining old read mid last asked.0 asked.1 asked.2 (asked_by old.conn (asked.0 ++ undone.0)) piece.0 piece.1 piece.2 piece.3
          c.read.ensures.opens c.in_ok-ask_lines.ensures.first asked.4 asked.7 asked.3 far asked.5 undone.2
          input settled (taken_in old.conn asked.0 undone.0 asked.1 asked.2 own gone) c.read.ensures.lines asked.8,
      asks_others old.conn asked.0 undone.0 asked.1 asked.2 own gone,
      λ on. asks_alone old.conn asked.0 undone.0 asked.1 asked.2 own (on_alone mid last undone.0 settled undone.4 input on),
      serve_asks_only old.conn asked.0 undone.0 asked.1 asked.2 own gone,
      quiet_join asked.0 undone.0 (asks_quiet old.conn asked.0 asked.1 asked.2 own) (undos_quiet old.conn undone.0 gone),
      since_served read.conn old.conn old.input.lines old.input.since read.input.lines read.input.since mid.input.since last.input.since asked.0 undone.0
          c.read.ensures.same.0 c.read.ensures.lines c.read.ensures.since asked.9 (undos_taken old.conn old.conn undone.0 gone)
          (ap (λ (i : Input). i.since) input),
    )) c.finish.ensures.undoes c.finish.ensures.none c.finish.ensures.input

pub returns-clause-goes_on : goal.returns-clause-goes_on
returns-clause-goes_on g c =
    on_ok_both c.finish.result (λ settled input on.
    c.read.ensures.goes_on (went_on c.read.new.self c.ask_lines.new.client c.finish.new.client c.in_ok-ask_lines.ensures.asks.1
    c.in_ok-ask_lines.ensures.asks.4 c.in_ok-ask_lines.ensures.phase settled input on)) c.finish.ensures.none c.finish.ensures.input

pub returns-clause-asked : goal.returns-clause-asked
returns-clause-asked g c =
    on_ok_weaker c.finish.result (λ settled. asked_still c.ask_lines.new.client c.finish.new.client settled c.in_ok-ask_lines.ensures.all)
    c.finish.ensures.none

pub returns-clause-same : goal.returns-clause-same
returns-clause-same g c =
    let handle = g.S.Duplex.handle in
    let asked = c.in_ok-ask_lines.ensures.asks in
    let old = c.args.client.now in
    let read = c.read.new.self in
    let mid = c.ask_lines.new.client in
    on_ok_weaker c.finish.result (λ undone.
    same_then handle old mid c.finish.new.client
    (same_then handle old read mid c.read.ensures.same (same_owes handle asked.2 read mid asked.5)) (same_owes handle _ mid c.finish.new.client undone.2))
    c.finish.ensures.undoes

pub returns-clause-read : goal.returns-clause-read
returns-clause-read g c =
    on_ok_weaker c.finish.result (λ undone wants.
    ap g.S.Duplex.reads (undone.2.stream ∙ c.in_ok-ask_lines.ensures.asks.5.stream) ∙ c.read.ensures.read wants) c.finish.ensures.undoes

pub returns-clause-broken : goal.returns-clause-broken
returns-clause-broken g c =
    let has_failed = g.S.Duplex.has_failed in
    let asked = c.in_ok-ask_lines.ensures.asks in
    on_ok_weaker c.finish.result (λ undone breaks.
    breaks_owes has_failed _ c.ask_lines.new.client c.finish.new.client undone.2
    (breaks_owes has_failed asked.2 c.read.new.self c.ask_lines.new.client asked.5 (c.read.ensures.failed breaks))) c.finish.ensures.undoes

pub returns-clause-idle : goal.returns-clause-idle
returns-clause-idle g c = λ idle.
    let still : c.read.new.self ≡ c.args.client.now = c.read.ensures.unread idle.1 in
    let asked = c.ask_lines.ensures.idle (subst (λ (x : Client _). ¬ MayAsk x) (sym still) idle.0) in
    c.finish.ensures.idle (subst (λ (x : Client _). ¬ IsWhole x) (sym (asked.1 ∙ still)) idle.2)
