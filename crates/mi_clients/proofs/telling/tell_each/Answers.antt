-- Each connection is told what it asks itself, and the others are as they were.
use Rattle.std.proofs.Common.{rules, ◌≡◌, ◌+◌, suc, ◌<◌, ◌≤◌, ◌++◌, [], length, refl, sym, subst, arith, ◌∙◌}
use Rattle.std.proofs.KnownBytes.{Keeps-refl}
use Rattle.std.specs.Prelude.{slice_set, slice_index_or}
use Rattle.mi_hub.specs.Run.{HubState}
use Rattle.mi_durable.specs.Durable.{hub_of}
use Rattle.mi_clients.specs.Client.{Takes}
use Rattle.mi_clients.specs.Clients.{ids, Attends, EachServed, EachTakes}
use Rattle.mi_clients.specs.ServiceLines.{line_of}
use Rattle.mi_clients.specs.Steps.{given_to, asked_by}
use Rattle.mi_clients.proofs.StepLemmas.{makes_none, makes_then}
use Rattle.mi_clients.proofs.ClientsLemmas.{ids_set, whole_clients}
use Rattle.mi_clients.proofs.ServedLemmas.{nothing_given, each_none, each_set, each_then, served_owes, AskedTo, taken_front, taken_behind, asked_to_none, asked_to_set, asked_to_all}
use Rattle.mi_clients.proofs.TellLemmas.{tells_only, tells_asked, tells_all, tell_join, so_join}
use Rattle.mi_clients.proofs.telling.tell_each.Goals as goal

pub loop-client-init : goal.loop-client-init
loop-client-init g c = record {
  attends = subst (λ items. Attends (ids items) (hub_of c.args.durable.now).attached) (sym c.deref_mut-client-items.ensures.value) c.requires.attends;
  settled = c.requires.settled;
  room = refl;
  segment = refl;
  steps = [];
  all = tt;
  so = tt;
  each = subst (EachServed g.S.Duplex.contents [] c.args.clients.now.items) (sym c.deref_mut-client-items.ensures.value)
      (each_none g.S.Duplex.contents [] c.args.clients.now.items nothing_given);
  takes = subst (AskedTo (λ zs o y. Takes (asked_by o.conn zs) o y) [] 0 c.args.clients.now.items) (sym c.deref_mut-client-items.ensures.value)
      (asked_to_none (λ zs o y. Takes (asked_by o.conn zs) o y) c.args.clients.now.items);
  makes = makes_none _ _ _ (Keeps-refl _);
}

pub loop-client-preserved : goal.loop-client-preserved
loop-client-preserved g c =
    let before = c.loop-client.invariant in
    let contents = g.S.Duplex.contents in
    let clients = c.loop-client.client-items in
    let at = c.loop-client.client-index in
    let within : at < length clients = omega (arith, c.loop-client-test.true, c.loop-client.auto.client-items) in
    let one_more : suc at ≡ at + 1 = omega arith in
    let one = c.in_ok-tell.ensures.tells in
    let old = slice_index_or clients at c.client-item.result in
    let same = ids_set clients at c.tell.new.client c.client-item.result one.4.conn in
    let set = each_set contents one.0 clients at c.client-item.result c.tell.new.client before.attends.differ within (tells_only old.conn one.0 one.1)
    (served_owes contents (given_to old.conn one.0) old c.tell.new.client one.3) in record {
      attends = subst (λ ks. Attends ks (hub_of c.tell.new.durable).attached) (sym same)
          (subst (λ (s : HubState). Attends (ids clients) s.attached) (sym c.in_ok-tell.ensures.hub) before.attends);
      settled = c.in_ok-tell.ensures.settled;
      room = c.in_ok-tell.ensures.room ∙ before.room;
      segment = c.in_ok-tell.ensures.segment ∙ before.segment;
      steps = before.steps ++ one.0;
      all = tell_join before.steps one.0 before.all (tells_all old.conn one.0 one.1);
      so = so_join c.args.status.now (line_of c.args.schema.now) before.steps one.0 before.so one.2;
      each = each_then contents before.steps one.0 c.args.clients.now.items clients (slice_set clients at c.tell.new.client) before.each set;
      takes = subst (λ n. AskedTo (λ zs o y. Takes (asked_by o.conn zs) o y) (before.steps ++ one.0) n c.args.clients.now.items (slice_set clients at c.tell.new.client)) one_more
          (asked_to_set (λ zs o y. Takes (asked_by o.conn zs) o y) (taken_front (λ t o y. Takes t o y)) (taken_behind (λ t o y. Takes t o y)) before.steps one.0 c.args.clients.now.items clients at c.client-item.result c.tell.new.client before.attends.differ
          within (tells_asked old.conn one.0 one.1) one.4.conn one.4 before.takes);
      makes = makes_then before.steps one.0 _ (hub_of c.loop-client.durable) _ _ _ _ before.makes one.5;
    }

pub returns-clause-tells : goal.returns-clause-tells
returns-clause-tells g c =
    let before = c.loop-client.invariant in
    let old = c.args.clients.now.items in
    let clients = c.loop-client.client-items in
    let len : c.args.clients.now.len ≡ length old = search rules in
    let same : length clients ≡ length old = search rules in
    let all = whole_clients old clients c.args.clients.now.len len same in
    let le : length clients ≤ c.loop-client.client-index = omega (arith, c.loop-client-test.false, c.loop-client.auto.client-items) in (
      before.steps,
      before.all,
      before.so,
      subst (EachServed g.S.Duplex.contents before.steps old) (sym all) before.each,
      subst (EachTakes before.steps old) (sym all) (asked_to_all (λ zs o y. Takes (asked_by o.conn zs) o y) before.steps old clients c.loop-client.client-index before.takes le),
      before.makes,
    )
