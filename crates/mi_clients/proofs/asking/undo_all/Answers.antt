-- Each session that is undone is a step more.
use Rattle.std.proofs.Common.{◌≡◌, ◌++◌, ◌∷◌, [], ◌∙◌, Some, refl, sym, ap, arith}
use Rattle.mi_durable.specs.Durable.{holder_conn}
use Rattle.mi_hub.specs.Run.{HubState}
use Rattle.mi_clients.proofs.UndoneLemmas.{asked_leaves}
use Rattle.std.proofs.KnownBytes.{Keeps-refl}
use Rattle.mi_hub.specs.Connections.{rest_at}
use Rattle.mi_durable.specs.Durable.{hub_of}
use Rattle.mi_clients.specs.Steps.{undoes}
use Rattle.mi_clients.proofs.StepLemmas.{makes_none, makes_then, undo_makes, undo_whole, undos_more, asks_attached}
use Rattle.mi_clients.proofs.asking.undo_all.Goals as goal

pub sessions-init : goal.sessions-init
sessions-init g c = record {
  attached = refl;
  settled = λ h. h;
  left = λ some. (refl, some);
  still = λ no. refl;
  makes_stay = refl;
  room = refl;
  segment = refl;
  steps = [];
  own = tt;
  makes = makes_none _ _ _ (Keeps-refl _);
}

pub ask-requires-clause-whole : goal.ask-requires-clause-whole
ask-requires-clause-whole g c = undo_whole

pub sessions-preserved : goal.sessions-preserved
sessions-preserved g c =
    let before = c.sessions.invariant in
    let asked = c.in_ok-ask.ensures.ok in
    let step = undoes c.args.conn asked.0 in
    let holds : holder_conn (hub_of c.sessions.durable).held.holder ≡ Some c.args.conn = c.holds.ensures.holder.0 (grind (arith, c.if-not-holds.false)) in
    let here = ap (rest_at c.args.conn) before.attached ∙ c.requires.here in record {
      attached = asks_attached c.args.conn _ asked.0 (hub_of c.sessions.durable) (hub_of c.ask.new.self) _ _ here asked.2 ∙ before.attached;
      settled = λ h. c.in_ok-ask.ensures.settled (before.settled h);
      left = λ some. asked_leaves c.args.conn _ asked.0 (hub_of c.args.durable.now) (hub_of c.sessions.durable) (hub_of c.ask.new.self) refl here holds
          asked.2.done (before.left some);
      still = λ no. absurd (no (sym (ap (λ (s : HubState). holder_conn s.held.holder) (ap hub_of (before.still no))) ∙ holds));
      makes_stay = c.in_ok-ask.ensures.makes_stay ∙ before.makes_stay;
      room = c.in_ok-ask.ensures.room ∙ before.room;
      segment = c.in_ok-ask.ensures.segment ∙ before.segment;
      steps = before.steps ++ step ∷ [];
      own = undos_more c.args.conn before.steps asked.0 before.own;
      makes = makes_then before.steps (step ∷ []) _ (hub_of c.sessions.durable) _ _ _ _ before.makes
          (undo_makes c.args.conn _ asked.0 (hub_of c.sessions.durable) (hub_of c.ask.new.self) _ _ refl holds asked.2);
    }
