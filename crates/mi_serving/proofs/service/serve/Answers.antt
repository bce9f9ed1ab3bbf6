-- A turn more.
use Rattle.std.proofs.Common.{◌≡◌, [], true, sym, ◌∙◌, subst, arith}
use Rattle.std.proofs.KnownBytes.{Keeps-refl}
use Rattle.mi_log.specs.DeviceLog.{device_of, segment_of}
use Rattle.mi_durable.specs.Durable.{hub_of, log_of}
use Rattle.mi_recovery.specs.Device.{told_of}
use Rattle.mi_clients.specs.Clients.{ids, Attends}
use Rattle.mi_serving.proofs.TurnLemmas.{goes_none, over_then, over_rolled, up_to_none, up_to_woken, up_to_ids}
use Rattle.mi_serving.proofs.OverflowLemmas.{waits_none, goes_turn}
use Rattle.mi_serving.specs.Overflow.{WaitsUpTo}
use Rattle.mi_serving.specs.Turns.{AllUpTo}
use Rattle.mi_serving.proofs.service.serve.Goals as goal

pub turns-init : goal.turns-init
turns-init g c = record {
  attends = subst (λ items. Attends (ids items) (hub_of c.args.durable.now).attached) (sym c.in-Ok.ensures.items)
      (record { there = c.requires.none; differ = tt });
  known = subst (λ items. AllUpTo _ items) (sym c.in-Ok.ensures.items) (up_to_none _);
  own = omega arith;
  waits = waits_none _ _ c.new-overflow.ensures.0;
  settled = c.requires.settled;
  goes = ([], goes_none _ _ _ (Keeps-refl _));
}

pub turns-preserved : goal.turns-preserved
turns-preserved g c = record {
  attends = subst (λ h. Attends (ids c.turn.new.clients.items) h.attached) (sym c.in_default-roll.ensures.hub) c.in_default-turn.ensures.attends;
  known = c.in_default-turn.ensures.known;
  own = omega (arith, c.turns.invariant.own, c.in_default-turn.ensures.rises);
  waits = subst (WaitsUpTo c.turn.new.last) (sym c.judge.ensures.comer) c.in_default-turn.ensures.waits;
  settled = c.in_default-roll.ensures.settled c.in_default-turn.ensures.settled;
  goes =
      let contents = g.P.File.Device.contents in
      let rolling = c.args.rolling.now in
      over_rolled (λ file. g.P.File.JournalFile.is_locked file ≡ true) contents rolling.schema.now rolling.keeping rolling.most hub_of (λ d. told_of contents (device_of (log_of d)))
      (λ d. segment_of (log_of d)) c.turn.new.durable c.roll.new.durable _ _
      (over_then (λ file. g.P.File.JournalFile.is_locked file ≡ true) contents rolling.schema.now rolling.keeping rolling.most _ (hub_of c.turns.durable) _ _ _ _ c.turns.invariant.goes
      (goes_turn _ _ _ _ _ _ _ _ _ _ _ _ _ _ c.in_default-turn.ensures.turns)) c.in_default-roll.ensures.hub c.in_default-roll.ensures.rolled;
}

pub turn-requires-clause-known : goal.turn-requires-clause-known
turn-requires-clause-known g c =
    up_to_ids c.turns.last c.wait.new.clients.items c.give_up.new.clients.items
    (up_to_woken c.turns.last c.turns.clients.items c.wait.new.clients.items c.turns.invariant.known c.wait.ensures.woken) c.give_up.ensures.ids

pub turn-requires-clause-waits : goal.turn-requires-clause-waits
turn-requires-clause-waits g c =
    subst (WaitsUpTo c.turns.last) (sym (c.give_up.ensures.comer ∙ c.wait.ensures.comer)) c.turns.invariant.waits
