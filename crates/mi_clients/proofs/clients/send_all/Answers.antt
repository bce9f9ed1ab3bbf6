-- Nothing is asked, and each connection is sent what it is owed itself.
use Rattle.std.proofs.Common.{rules, ◌≡◌, ◌<◌, ◌≤◌, [], length, ◌∙◌, refl, sym, ap, subst, arith}
use Rattle.std.proofs.KnownBytes.{Keeps-refl, Keeps-trans}
use Rattle.std.specs.Io.KnownBytes.{Keeps}
use Rattle.std.specs.List.{All}
use Rattle.std.specs.Prelude.{slice_set, slice_index_or}
use Rattle.mi_hub.specs.Run.{HubState}
use Rattle.mi_durable.specs.Durable.{hub_of}
use Rattle.mi_clients.specs.Client.{IsSent}
use Rattle.mi_clients.specs.Clients.{ids, inputs, Attends, EachServed, EachUnread, EachAsFar}
use Rattle.mi_clients.specs.declared.client.Client.{Client}
use Rattle.mi_clients.proofs.ClientsLemmas.{ids_set, inputs_set, holds_none, holds_set, holds_all, done_set, whole_clients}
use Rattle.mi_clients.proofs.ServedLemmas.{nothing_given, each_none, each_set, each_then, served_then, served_owes, served_sends, sent_all, far_none, far_then, far_set, unread_none, unread_set}
use Rattle.mi_clients.proofs.StreamLemmas.{Written, written_one, written_all}
use Rattle.mi_clients.proofs.clients.send_all.Goals as goal

pub loop-client-init : goal.loop-client-init
loop-client-init g c = record {
  attends = subst (λ items. Attends (ids items) (hub_of c.args.durable.now).attached) (sym c.deref_mut-client-items.ensures.value) c.requires.attends;
  settled = c.requires.settled;
  sent = holds_none (λ x. IsSent x) _;
  far = subst (EachAsFar c.args.clients.now.items) (sym c.deref_mut-client-items.ensures.value) (far_none c.args.clients.now.items);
  unread = subst (EachUnread g.S.Duplex.remaining c.args.clients.now.items) (sym c.deref_mut-client-items.ensures.value)
      (unread_none g.S.Duplex.remaining c.args.clients.now.items);
  done = c.deref_mut-client-items.ensures.value;
  inputs = ap inputs c.deref_mut-client-items.ensures.value;
  each = subst (EachServed g.S.Duplex.contents [] c.args.clients.now.items) (sym c.deref_mut-client-items.ensures.value)
      (each_none g.S.Duplex.contents [] c.args.clients.now.items nothing_given);
  hub = refl;
  appended = Keeps-refl _;
  room = refl;
  segment = refl;
}

pub loop-client-preserved : goal.loop-client-preserved
loop-client-preserved g c =
    let before = c.loop-client.invariant in
    let contents = g.S.Duplex.contents in
    let clients = c.loop-client.client-items in
    let at = c.loop-client.client-index in
    let within : at < length clients = omega (arith, c.loop-client-test.true, c.loop-client.auto.client-items) in
    let released = c.in_ok-release.ensures.owes in
    let sent = served_sends contents c.release.new.client c.send.new.self (ap (λ (x : Client _). x.conn) c.send.ensures.same)
    c.send.ensures.sent c.send.ensures.broken in
    let old = slice_index_or clients at c.client-item.result in
    let one = served_then contents [] [] old c.release.new.client c.send.new.self (served_owes contents [] old c.release.new.client released) sent in
    let kept = c.send.ensures.input ∙ c.in_ok-release.ensures.input in
    let same = ids_set clients at c.send.new.self c.client-item.result one.conn in
    let set = each_set contents [] clients at c.client-item.result c.send.new.self before.attends.differ within (λ k other. refl) one in record {
      attends = subst (λ ks. Attends ks (hub_of c.release.new.durable).attached) (sym same)
          (subst (Attends (ids clients)) (sym (ap (λ (s : HubState). s.attached) c.release.ensures.hub)) before.attends);
      settled = c.release.ensures.settled;
      sent = holds_set (λ x. IsSent x) clients at c.send.new.self within
          (sent_all c.release.new.client c.send.new.self c.send.ensures.all c.in_ok-release.ensures.none (ap (λ (x : Client _). x.held) c.send.ensures.same))
          before.sent;
      far = far_set c.args.clients.now.items clients at c.client-item.result c.send.new.self within
          (far_then old c.release.new.client c.send.new.self c.in_ok-release.ensures.phase c.send.ensures.phase) before.far;
      unread = unread_set g.S.Duplex.remaining c.args.clients.now.items clients at c.client-item.result c.send.new.self within
          (subst (λ s. Keeps (g.S.Duplex.remaining s) (g.S.Duplex.remaining c.send.new.self.stream)) released.stream c.send.ensures.remaining) before.unread;
      done = done_set (λ x y. Written g.S.Duplex.handle g.S.Duplex.reads g.S.Duplex.has_failed x y) c.args.clients.now.items clients at c.client-item.result
          c.send.new.self within (written_one g.S.Duplex.handle g.S.Duplex.reads g.S.Duplex.has_failed old c.release.new.client c.send.new.self released
          (far_then old c.release.new.client c.send.new.self c.in_ok-release.ensures.phase c.send.ensures.phase)
          (c.send.ensures.has_lines ∙ c.in_ok-release.ensures.has_lines) (ap (λ (x : Client _). x.conn) c.send.ensures.same) c.send.ensures.handle
          c.send.ensures.reads c.send.ensures.failed) before.done;
      inputs = inputs_set clients at c.send.new.self c.client-item.result kept ∙ before.inputs;
      each = each_then contents [] [] c.args.clients.now.items clients (slice_set clients at c.send.new.self) before.each set;
      hub = c.release.ensures.hub ∙ before.hub;
      appended = Keeps-trans _ _ _ before.appended c.release.ensures.appended;
      room = c.in_ok-release.ensures.room ∙ before.room;
      segment = c.in_ok-release.ensures.segment ∙ before.segment;
    }

pub returns-clause-sends : goal.returns-clause-sends
returns-clause-sends g c =
    let old = c.args.clients.now.items in
    let clients = c.loop-client.client-items in
    let len : c.args.clients.now.len ≡ length old = search rules in
    let same : length clients ≡ length old = search rules in
    let all = whole_clients old clients c.args.clients.now.len len same in
    subst (EachServed g.S.Duplex.contents [] old) (sym all) c.loop-client.invariant.each

pub returns-clause-sent : goal.returns-clause-sent
returns-clause-sent g c =
    let old = c.args.clients.now.items in
    let clients = c.loop-client.client-items in
    let len : c.args.clients.now.len ≡ length old = search rules in
    let same : length clients ≡ length old = search rules in
    let all = whole_clients old clients c.args.clients.now.len len same in
    let le : length clients ≤ c.loop-client.client-index = omega (arith, c.loop-client-test.false, c.loop-client.auto.client-items) in
    subst (All (λ x. IsSent x)) (sym all) (holds_all (λ x. IsSent x) clients c.loop-client.client-index le c.loop-client.invariant.sent)

pub returns-clause-far : goal.returns-clause-far
returns-clause-far g c =
    let old = c.args.clients.now.items in
    let clients = c.loop-client.client-items in
    let len : c.args.clients.now.len ≡ length old = search rules in
    let same : length clients ≡ length old = search rules in
    let all = whole_clients old clients c.args.clients.now.len len same in
    subst (EachAsFar old) (sym all) c.loop-client.invariant.far

pub returns-clause-inputs : goal.returns-clause-inputs
returns-clause-inputs g c =
    let old = c.args.clients.now.items in
    let clients = c.loop-client.client-items in
    let len : c.args.clients.now.len ≡ length old = search rules in
    let same : length clients ≡ length old = search rules in
    let all = whole_clients old clients c.args.clients.now.len len same in
    ap inputs all ∙ c.loop-client.invariant.inputs

pub returns-clause-unread : goal.returns-clause-unread
returns-clause-unread g c =
    let old = c.args.clients.now.items in
    let clients = c.loop-client.client-items in
    let len : c.args.clients.now.len ≡ length old = search rules in
    let same : length clients ≡ length old = search rules in
    let all = whole_clients old clients c.args.clients.now.len len same in
    subst (EachUnread g.S.Duplex.remaining old) (sym all) c.loop-client.invariant.unread

pub returns-clause-attends : goal.returns-clause-attends
returns-clause-attends g c =
    let old = c.args.clients.now.items in
    let clients = c.loop-client.client-items in
    let len : c.args.clients.now.len ≡ length old = search rules in
    let same : length clients ≡ length old = search rules in
    let all = whole_clients old clients c.args.clients.now.len len same in
    subst (λ items. Attends (ids items) (hub_of c.loop-client.durable).attached) (sym all) c.loop-client.invariant.attends

pub returns-clause-whole : goal.returns-clause-whole
returns-clause-whole g c =
    let old = c.args.clients.now.items in
    let clients = c.loop-client.client-items in
    let len : c.args.clients.now.len ≡ length old = search rules in
    let same : length clients ≡ length old = search rules in
    let le : length clients ≤ c.loop-client.client-index = omega (arith, c.loop-client-test.false, c.loop-client.auto.client-items) in
    (written_all g.S.Duplex.handle g.S.Duplex.reads g.S.Duplex.has_failed old clients _ c.loop-client.client-index le
    (whole_clients old clients c.args.clients.now.len len same) c.loop-client.invariant.done).0

pub returns-clause-same : goal.returns-clause-same
returns-clause-same g c =
    let old = c.args.clients.now.items in
    let clients = c.loop-client.client-items in
    let len : c.args.clients.now.len ≡ length old = search rules in
    let same : length clients ≡ length old = search rules in
    let le : length clients ≤ c.loop-client.client-index = omega (arith, c.loop-client-test.false, c.loop-client.auto.client-items) in
    (written_all g.S.Duplex.handle g.S.Duplex.reads g.S.Duplex.has_failed old clients _ c.loop-client.client-index le
    (whole_clients old clients c.args.clients.now.len len same) c.loop-client.invariant.done).1

pub returns-clause-uncounted : goal.returns-clause-uncounted
returns-clause-uncounted g c =
    let old = c.args.clients.now.items in
    let clients = c.loop-client.client-items in
    let len : c.args.clients.now.len ≡ length old = search rules in
    let same : length clients ≡ length old = search rules in
    let le : length clients ≤ c.loop-client.client-index = omega (arith, c.loop-client-test.false, c.loop-client.auto.client-items) in
    (written_all g.S.Duplex.handle g.S.Duplex.reads g.S.Duplex.has_failed old clients _ c.loop-client.client-index le
    (whole_clients old clients c.args.clients.now.len len same) c.loop-client.invariant.done).2

pub returns-clause-broken : goal.returns-clause-broken
returns-clause-broken g c =
    let old = c.args.clients.now.items in
    let clients = c.loop-client.client-items in
    let len : c.args.clients.now.len ≡ length old = search rules in
    let same : length clients ≡ length old = search rules in
    let le : length clients ≤ c.loop-client.client-index = omega (arith, c.loop-client-test.false, c.loop-client.auto.client-items) in
    (written_all g.S.Duplex.handle g.S.Duplex.reads g.S.Duplex.has_failed old clients _ c.loop-client.client-index le
    (whole_clients old clients c.args.clients.now.len len same) c.loop-client.invariant.done).3
