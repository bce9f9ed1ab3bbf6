-- One more is judged.
use Rattle.std.proofs.Common.{rules, ◌≡◌, ◌<◌, ◌≤◌, length, subst, arith}
use Rattle.std.specs.Prelude.{slice_index_or}
use Rattle.mi_durable.specs.Durable.{hub_of, holder_conn}
use Rattle.mi_clients.specs.Silence.{IsJudged, limit_of}
use Rattle.mi_clients.proofs.ClientsLemmas.{done_set, whole_clients}
use Rattle.mi_clients.proofs.SilenceLemmas.{judged_all}
use Rattle.mi_clients.proofs.silence.give_up_silent.Goals as goal

pub loop-client-init : goal.loop-client-init
loop-client-init g c = record { done = c.deref_mut-client-items.ensures.value }

pub loop-client-preserved : goal.loop-client-preserved
loop-client-preserved g c =
    let clients = c.loop-client.client-items in
    let at = c.loop-client.client-index in
    let old = slice_index_or clients at c.client-item.result in
    let holder = holder_conn (hub_of c.args.durable.now).held.holder in
    let within : at < length clients = omega (arith, c.loop-client-test.true, c.loop-client.auto.client-items) in record {
      done = done_set (λ x y. IsJudged (limit_of c.args.limits.now holder x.conn) c.args.now x y) c.args.clients.now.items clients at c.client-item.result
          c.judge.new.self within (subst (λ l. IsJudged l c.args.now old c.judge.new.self) c.limit_for-limit.ensures c.judge.ensures)
          c.loop-client.invariant.done;
    }

pub returns-clause-judged : goal.returns-clause-judged
returns-clause-judged g c =
    let old = c.args.clients.now.items in
    let clients = c.loop-client.client-items in
    let len : c.args.clients.now.len ≡ length old = search rules in
    let same : length clients ≡ length old = search rules in
    let le : length clients ≤ c.loop-client.client-index = omega (arith, c.loop-client-test.false, c.loop-client.auto.client-items) in
    (judged_all c.args.limits.now (holder_conn (hub_of c.args.durable.now).held.holder) c.args.now old clients _ c.loop-client.client-index le
    (whole_clients old clients c.args.clients.now.len len same) c.loop-client.invariant.done).0

pub returns-clause-ids : goal.returns-clause-ids
returns-clause-ids g c =
    let old = c.args.clients.now.items in
    let clients = c.loop-client.client-items in
    let len : c.args.clients.now.len ≡ length old = search rules in
    let same : length clients ≡ length old = search rules in
    let le : length clients ≤ c.loop-client.client-index = omega (arith, c.loop-client-test.false, c.loop-client.auto.client-items) in
    (judged_all c.args.limits.now (holder_conn (hub_of c.args.durable.now).held.holder) c.args.now old clients _ c.loop-client.client-index le
    (whole_clients old clients c.args.clients.now.len len same) c.loop-client.invariant.done).1
