-- Each line that is asked is a step more, and its reply is owed.
use Rattle.std.proofs.Common.{◌≡◌, ◌++◌, ◌∷◌, [], ◌∙◌, inl, inr, refl, sym, ap, subst}
use Rattle.std.proofs.KnownBytes.{Keeps-refl}
use Rattle.mi_hub.specs.Run.{HubState}
use Rattle.mi_durable.specs.Durable.{hub_of}
use Rattle.mi_clients.specs.Input.{waiting, count_on}
use Rattle.mi_clients.specs.Client.{MayAsk}
use Rattle.mi_clients.specs.declared.client.Client.{Client}
use Rattle.mi_clients.specs.declared.input.Input.{Input}
use Rattle.mi_clients.specs.declared.client.Phase.TheVariants.{Broken}
use Rattle.mi_clients.proofs.InputLemmas.{count_join}
use Rattle.mi_clients.proofs.StepLemmas.{makes_none, makes_then, makes_kept, asks_of, asks_more, waits_more}
use Rattle.mi_clients.proofs.SinceLemmas.{since_more}
use Rattle.mi_clients.proofs.ServedLemmas.{asks_taken, owes_none, owes_more, owes_reply, far_then, room_left}
use Rattle.mi_clients.proofs.asking.ask_lines.Goals as goal

pub lines-init : goal.lines-init
lines-init g c = record {
  attached = refl;
  settled = c.requires.settled;
  steps = [];
  taken = [];
  given = [];
  own = (refl, refl);
  input = refl;
  owes = owes_none c.args.client.now;
  far = inr refl;
  within = inl refl;
  first = refl;
  lines = refl;
  since = refl;
  idle = λ no. refl;
  makes = makes_none _ _ _ (Keeps-refl _);
}

pub lines-preserved : goal.lines-preserved
lines-preserved g c =
    let before = c.lines.invariant in
    let one = c.in_ok-ask_line.ensures.one c.in-Asked.is in
    let same = c.in_ok-ask_line.ensures.same in
    let conn = c.args.client.now.conn in
    let step = one.2 in
    let own = asks_of c.lines.client.conn conn one.0 one.1 step before.owes.conn one.3 in
    let sound : ¬ (c.lines.client.phase ≡ Broken) = (c.may_ask.ensures.may.0 c.lines-test.true).0 in record {
      attached = ap (λ (s : HubState). s.attached) c.in_ok-release_each-in-Asked.ensures.hub ∙ c.in_ok-ask_line.ensures.attached ∙ before.attached;
      settled = c.in_ok-release_each-in-Asked.ensures.settled;
      steps = before.steps ++ step ∷ [];
      taken = before.taken ++ one.0;
      given = before.given ++ one.1;
      own = asks_more conn before.steps before.taken before.given one.0 one.1 step own before.own;
      input = waits_more _ before.taken one.0 (waiting c.lines.client.input) _ before.input
          (one.5 ∙ ap (λ i. one.0 ++ waiting i) (sym c.in_ok-release_each-in-Asked.ensures.input));
      owes = owes_more before.given one.1 c.args.client.now c.lines.client c.ask_line.new.client c.release_each.new.client before.owes
          (owes_reply one.1 c.lines.client c.ask_line.new.client same.0 same.2 one.6 sound) c.in_ok-release_each-in-Asked.ensures.owes;
      far = far_then c.args.client.now c.lines.client c.release_each.new.client before.far
          (far_then c.lines.client c.ask_line.new.client c.release_each.new.client (inr same.1) c.in_ok-release_each-in-Asked.ensures.phase);
      within = inr (
        λ broken. sound (before.owes.broken broken).0,
        before.steps,
        step,
        refl,
        one.0,
        one.1,
        own,
        room_left c.args.client.now c.lines.client before.steps before.taken before.given before.own before.owes sound
            (c.may_ask.ensures.may.0 c.lines-test.true).2,
      );
      first = ap (λ (i : Input). i.is_first) c.in_ok-release_each-in-Asked.ensures.input ∙ c.in_ok-ask_line.ensures.first ∙ before.first;
      lines = ap (λ (i : Input). i.lines) c.in_ok-release_each-in-Asked.ensures.input ∙ one.9 ∙ ap (λ n. count_on n one.0) before.lines
          ∙ sym (count_join c.args.client.now.input.lines before.taken one.0);
      since = ap (λ (i : Input). i.since) c.in_ok-release_each-in-Asked.ensures.input
          ∙ since_more c.lines.client.conn conn c.args.client.now.input.lines c.args.client.now.input.since c.lines.client.input.lines
          c.lines.client.input.since c.ask_line.new.client.input.since before.steps step before.taken before.owes.conn before.lines before.since
          (asks_taken conn before.steps before.taken before.given before.own) one.10;
      idle = λ no. absurd (no (subst (λ (x : Client _). MayAsk x) (before.idle no) (c.may_ask.ensures.may.0 c.lines-test.true)));
      makes = makes_kept (before.steps ++ step ∷ []) _ (hub_of c.ask_line.new.durable) _ _ _ _
          (makes_then before.steps (step ∷ []) _ (hub_of c.lines.durable) _ _ _ _ before.makes one.7)
          c.in_ok-release_each-in-Asked.ensures.hub c.in_ok-release_each-in-Asked.ensures.appended;
    }
