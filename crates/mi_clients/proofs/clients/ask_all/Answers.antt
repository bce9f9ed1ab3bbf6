-- Each connection is one that the hub has attached, keeps its number, and alone is given the replies to its lines.
use Rattle.std.proofs.Common.{rules, ◌≡◌, ◌+◌, suc, ◌<◌, ◌≤◌, ◌++◌, [], length, false, refl, sym, subst, arith}
use Rattle.std.specs.List.{All}
use Rattle.std.proofs.KnownBytes.{Keeps-refl}
use Rattle.std.specs.Prelude.{slice_set}
use Rattle.mi_durable.specs.Durable.{hub_of}
use Rattle.mi_clients.specs.Client.{IsAsked, IsIdle}
use Rattle.mi_clients.specs.declared.client.Client.{Client}
use Rattle.mi_clients.specs.Clients.{ids, Attends, EachServed, EachAsked, OpenOnlyAsk}
use Rattle.mi_clients.proofs.StepLemmas.{makes_none, makes_then}
use Rattle.mi_clients.proofs.ClientsLemmas.{ids_set, attends_at, holds_none, holds_set, holds_all, done_set, done_next, whole_clients, true_false}
use Rattle.mi_clients.proofs.ServedLemmas.{nothing_given, each_none, each_set, each_then, opens_none, opens_set, AskedTo, CameKnown, known_front, known_behind, asked_to_none, asked_to_set, asked_to_all}
use Rattle.mi_clients.proofs.StreamLemmas.{Attended, attended_all}
use Rattle.mi_clients.proofs.TellLemmas.{quiet_join}
use Rattle.mi_clients.proofs.clients.ask_all.Goals as goal

pub loop-client-init : goal.loop-client-init
loop-client-init g c = record {
  attends = subst (λ items. Attends (ids items) (hub_of c.args.durable.now).attached) (sym c.deref_mut-client-items.ensures.value) c.requires.attends;
  settled = c.requires.settled;
  asked = holds_none (λ x. IsAsked x) _;
  steps = [];
  each = subst (EachServed g.S.Duplex.contents [] c.args.clients.now.items) (sym c.deref_mut-client-items.ensures.value)
      (each_none g.S.Duplex.contents [] c.args.clients.now.items nothing_given);
  done = c.deref_mut-client-items.ensures.value;
  came = subst (AskedTo (λ zs o y. CameKnown g.S.Duplex.remaining zs o y) [] 0 c.args.clients.now.items) (sym c.deref_mut-client-items.ensures.value)
      (asked_to_none (λ zs o y. CameKnown g.S.Duplex.remaining zs o y) c.args.clients.now.items);
  quiet = tt;
  opens = opens_none _;
  makes = makes_none _ _ _ (Keeps-refl _);
}

pub serve-requires-clause-here : goal.serve-requires-clause-here
serve-requires-clause-here g c =
    let within : c.loop-client.client-index < length c.loop-client.client-items = omega (arith, c.loop-client-test.true, c.loop-client.auto.client-items) in
    attends_at c.loop-client.client-items c.loop-client.client-index c.client-item.result _ c.loop-client.invariant.attends within

pub loop-client-preserved : goal.loop-client-preserved
loop-client-preserved g c =
    let before = c.loop-client.invariant in
    let clients = c.loop-client.client-items in
    let at = c.loop-client.client-index in
    let within : at < length clients = omega (arith, c.loop-client-test.true, c.loop-client.auto.client-items) in
    let one_more : suc at ≡ at + 1 = omega arith in
    let one = c.in_ok-serve.ensures.serves in
    let same = ids_set clients at c.serve.new.client c.client-item.result one.2.conn in
    let set = each_set g.S.Duplex.contents one.0 clients at c.client-item.result c.serve.new.client before.attends.differ within one.1 one.2 in record {
      attends = subst (λ ks. Attends ks (hub_of c.serve.new.durable).attached) (sym same)
          (subst (Attends (ids clients)) (sym c.in_ok-serve.ensures.attached) before.attends);
      settled = c.in_ok-serve.ensures.settled;
      steps = before.steps ++ one.0;
      asked = holds_set (λ x. IsAsked x) clients at c.serve.new.client within c.in_ok-serve.ensures.asked before.asked;
      each = each_then g.S.Duplex.contents before.steps one.0 c.args.clients.now.items clients (slice_set clients at c.serve.new.client) before.each set;
      done = done_set (λ x y. Attended g.S.Duplex.handle g.S.Duplex.reads g.S.Duplex.has_failed x y) c.args.clients.now.items clients at c.client-item.result
          c.serve.new.client within
          (c.in_ok-serve.ensures.same, c.in_ok-serve.ensures.read, c.in_ok-serve.ensures.broken, c.in_ok-serve.ensures.whole) before.done;
      came = subst (λ n. AskedTo (λ zs o y. CameKnown g.S.Duplex.remaining zs o y) (before.steps ++ one.0) n c.args.clients.now.items (slice_set clients at c.serve.new.client)) one_more
          (asked_to_set (λ zs o y. CameKnown g.S.Duplex.remaining zs o y) (known_front g.S.Duplex.remaining) (known_behind g.S.Duplex.remaining) before.steps one.0 c.args.clients.now.items clients at c.client-item.result c.serve.new.client before.attends.differ
          within one.7 one.2.conn (one.4, one.9) before.came);
      quiet = quiet_join before.steps one.0 before.quiet one.8;
      opens = opens_set before.steps one.0 clients at c.client-item.result c.serve.new.client before.attends.differ within one.5 one.2.conn
          c.in_ok-serve.ensures.goes_on one.6 before.opens;
      makes = makes_then before.steps one.0 _ (hub_of c.loop-client.durable) _ _ _ _ before.makes one.3;
    }

pub returns-clause-serves : goal.returns-clause-serves
returns-clause-serves g c =
    let before = c.loop-client.invariant in
    let old = c.args.clients.now.items in
    let clients = c.loop-client.client-items in
    let len : c.args.clients.now.len ≡ length old = search rules in
    let same : length clients ≡ length old = search rules in
    let all = whole_clients old clients c.args.clients.now.len len same in
    let le : length clients ≤ c.loop-client.client-index = omega (arith, c.loop-client-test.false, c.loop-client.auto.client-items) in (
      before.steps,
      subst (EachServed g.S.Duplex.contents before.steps old) (sym all) before.each,
      before.makes,
      subst (OpenOnlyAsk before.steps) (sym all) before.opens,
      subst (EachAsked g.S.Duplex.remaining before.steps old) (sym all)
          (asked_to_all (λ zs o y. CameKnown g.S.Duplex.remaining zs o y) before.steps old clients c.loop-client.client-index before.came le),
      before.quiet,
    )

pub returns-clause-asked : goal.returns-clause-asked
returns-clause-asked g c =
    let old = c.args.clients.now.items in
    let clients = c.loop-client.client-items in
    let len : c.args.clients.now.len ≡ length old = search rules in
    let same : length clients ≡ length old = search rules in
    let le : length clients ≤ c.loop-client.client-index = omega (arith, c.loop-client-test.false, c.loop-client.auto.client-items) in
    subst (λ items. All (λ x. IsAsked x) items) (sym (whole_clients old clients c.args.clients.now.len len same))
    (holds_all (λ x. IsAsked x) clients c.loop-client.client-index le c.loop-client.invariant.asked)

pub returns-clause-whole : goal.returns-clause-whole
returns-clause-whole g c =
    let old = c.args.clients.now.items in
    let clients = c.loop-client.client-items in
    let len : c.args.clients.now.len ≡ length old = search rules in
    let same : length clients ≡ length old = search rules in
    let le : length clients ≤ c.loop-client.client-index = omega (arith, c.loop-client-test.false, c.loop-client.auto.client-items) in
    (attended_all g.S.Duplex.handle g.S.Duplex.reads g.S.Duplex.has_failed old clients _ c.loop-client.client-index le
    (whole_clients old clients c.args.clients.now.len len same) c.loop-client.invariant.done).0

pub returns-clause-same : goal.returns-clause-same
returns-clause-same g c =
    let old = c.args.clients.now.items in
    let clients = c.loop-client.client-items in
    let len : c.args.clients.now.len ≡ length old = search rules in
    let same : length clients ≡ length old = search rules in
    let le : length clients ≤ c.loop-client.client-index = omega (arith, c.loop-client-test.false, c.loop-client.auto.client-items) in
    (attended_all g.S.Duplex.handle g.S.Duplex.reads g.S.Duplex.has_failed old clients _ c.loop-client.client-index le
    (whole_clients old clients c.args.clients.now.len len same) c.loop-client.invariant.done).1

pub returns-clause-read : goal.returns-clause-read
returns-clause-read g c =
    let old = c.args.clients.now.items in
    let clients = c.loop-client.client-items in
    let len : c.args.clients.now.len ≡ length old = search rules in
    let same : length clients ≡ length old = search rules in
    let le : length clients ≤ c.loop-client.client-index = omega (arith, c.loop-client-test.false, c.loop-client.auto.client-items) in
    (attended_all g.S.Duplex.handle g.S.Duplex.reads g.S.Duplex.has_failed old clients _ c.loop-client.client-index le
    (whole_clients old clients c.args.clients.now.len len same) c.loop-client.invariant.done).2

pub returns-clause-broken : goal.returns-clause-broken
returns-clause-broken g c =
    let old = c.args.clients.now.items in
    let clients = c.loop-client.client-items in
    let len : c.args.clients.now.len ≡ length old = search rules in
    let same : length clients ≡ length old = search rules in
    let le : length clients ≤ c.loop-client.client-index = omega (arith, c.loop-client-test.false, c.loop-client.auto.client-items) in
    (attended_all g.S.Duplex.handle g.S.Duplex.reads g.S.Duplex.has_failed old clients _ c.loop-client.client-index le
    (whole_clients old clients c.args.clients.now.len len same) c.loop-client.invariant.done).3

pub returns-in_err-serve-clause-idle : goal.returns-in_err-serve-clause-idle
returns-in_err-serve-clause-idle g c = λ all.
    let clients = c.loop-client.client-items in
    let at = c.loop-client.client-index in
    let within : at < length clients = omega (arith, c.loop-client-test.true, c.loop-client.auto.client-items) in
    let next = done_next (λ x y. Attended g.S.Duplex.handle g.S.Duplex.reads g.S.Duplex.has_failed x y) c.args.clients.now.items clients at c.client-item.result
    within c.loop-client.invariant.done in
    absurd (true_false false
    (c.in_err-serve.ensures.idle (subst (λ (x : Client _). IsIdle x) (sym next.1) (all at c.client-item.result next.0))) refl)
