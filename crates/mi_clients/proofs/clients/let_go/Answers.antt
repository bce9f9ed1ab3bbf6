-- Who is over goes away, and the others stay what the hub has attached, as they are.
use Rattle.std.proofs.Common.{◌≡◌, ◌++◌, ◌∙◌, ◌<◌, [], length, Some, refl, sym, ap, subst, rules}
use Rattle.std.proofs.KnownBytes.{Keeps-refl}
use Rattle.mi_hub.specs.Connections.{rest_at, others}
use Rattle.mi_durable.specs.Durable.{hub_of}
use Rattle.mi_clients.specs.Client.{IsOver}
use Rattle.mi_clients.specs.Clients.{ids, Attends, LetsGo, OpenOnlyAsk}
use Rattle.mi_clients.specs.Steps.{LeavesOthers}
use Rattle.mi_clients.specs.declared.client.Client.{Client}
use Rattle.mi_clients.proofs.StepLemmas.{makes_none, makes_then}
use Rattle.mi_clients.proofs.ClientsLemmas.{attends_at, attends_less, holds_none, holds_less, holds_more, holds_all, true_false, HoldsTo}
use Rattle.mi_clients.proofs.ServedLemmas.{nothing_given, nothing_asked, quiet_join, none_join, lets_none, lets_one, opens_none, opens_less}
use Rattle.mi_clients.proofs.clients.let_go.Goals as goal

-- it isn't to be let go
abbrev stays : {S : Type 0} → Client S → Type 0
stays c = ¬ IsOver c

pub clients-init : goal.clients-init
clients-init g c = record {
  attends = c.requires.attends;
  settled = c.requires.settled;
  gone = lets_none c.args.clients.now.items;
  stay = holds_none stays c.args.clients.now.items;
  room = refl;
  segment = refl;
  steps = [];
  none = nothing_given;
  quiet = nothing_asked;
  opens = opens_none c.args.clients.now.items;
  makes = makes_none _ _ _ (Keeps-refl _);
}

pub disconnect-requires : goal.disconnect-requires
disconnect-requires g c =
    let within : c.clients.at < length c.clients.clients.items = search rules in
    let client = c.index-then-is_over.result.now in record {
      here = subst (λ k. rest_at k (hub_of c.clients.durable).attached ≡ Some (Some [])) (sym (ap (λ (x : Client _). x.conn) c.index-then-is_over.ensures))
          (attends_at c.clients.clients.items c.clients.at client (hub_of c.clients.durable).attached c.clients.invariant.attends within);
    }

pub clients-preserved-then-is_over : goal.clients-preserved-then-is_over
clients-preserved-then-is_over g c =
    let within : c.clients.at < length c.clients.clients.items = search rules in
    let client = c.index-then-is_over.result.now in
    let before = c.clients.invariant in
    let parted = c.in_ok-disconnect.ensures.goes in
    let gone = c.in_ok-disconnect.ensures.attached
    ∙ ap (λ k. others k (hub_of c.clients.durable).attached) (ap (λ (x : Client _). x.conn) c.index-then-is_over.ensures) in
    let over = subst (λ (x : Client _). IsOver x) c.index.ensures (c.is_over.ensures.0 c.if-is_over.true) in record {
      attends = subst (λ clients. Attends (ids clients) (hub_of c.disconnect.new.durable).attached) (sym c.remove.ensures.items)
          (attends_less c.clients.clients.items c.clients.at client (hub_of c.clients.durable).attached (hub_of c.disconnect.new.durable).attached within before.attends gone);
      settled = c.in_ok-disconnect.ensures.settled before.settled;
      gone = subst (LetsGo c.args.clients.now.items) (sym c.remove.ensures.items)
          (lets_one c.args.clients.now.items c.clients.clients.items c.clients.at c.index.result.now before.gone within over);
      stay = subst (HoldsTo stays c.clients.at) (sym c.remove.ensures.items) (holds_less stays c.clients.clients.items c.clients.at within before.stay);
      room = c.in_ok-disconnect.ensures.room ∙ before.room;
      segment = c.in_ok-disconnect.ensures.segment ∙ before.segment;
      steps = before.steps ++ parted.0;
      none = none_join before.steps parted.0 before.none parted.1;
      quiet = quiet_join before.steps parted.0 before.quiet parted.4;
      opens = subst (OpenOnlyAsk (before.steps ++ parted.0)) (sym c.remove.ensures.items)
          (opens_less before.steps parted.0 c.clients.clients.items c.clients.at client before.attends.differ within
          (subst (λ k. LeavesOthers k parted.0) (ap (λ (x : Client _). x.conn) c.index-then-is_over.ensures) parted.3) before.opens);
      makes = makes_then before.steps parted.0 _ (hub_of c.clients.durable) _ _ _ _ before.makes parted.2;
    }

pub clients-preserved : goal.clients-preserved
clients-preserved g c =
    let within : c.clients.at < length c.clients.clients.items = search rules in
    let before = c.clients.invariant in record {
      attends = before.attends;
      settled = before.settled;
      gone = before.gone;
      stay = holds_more stays c.clients.clients.items c.clients.at c.index.result.now c.index.ensures within
          (λ over. true_false c.is_over.result (c.is_over.ensures.1 over) c.if-is_over.false) before.stay;
      room = before.room;
      segment = before.segment;
      steps = before.steps;
      none = before.none;
      quiet = before.quiet;
      opens = before.opens;
      makes = before.makes;
    }

pub returns-clause-stay : goal.returns-clause-stay
returns-clause-stay g c = holds_all stays c.clients.clients.items c.clients.at (search rules) c.clients.invariant.stay
