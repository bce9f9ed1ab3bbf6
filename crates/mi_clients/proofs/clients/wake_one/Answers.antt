-- One more was told.
use Rattle.std.proofs.Common.{rules, ◌≡◌, ◌<◌, ◌≤◌, length, arith}
use Rattle.mi_clients.specs.Client.{told}
use Rattle.mi_clients.proofs.ClientsLemmas.{done_set, whole_clients}
use Rattle.mi_clients.proofs.StreamLemmas.{told_all}
use Rattle.mi_clients.proofs.clients.wake_one.Goals as goal

pub loop-client-init : goal.loop-client-init
loop-client-init g c = record { done = c.deref_mut-client-items.ensures.value }

pub loop-client-preserved : goal.loop-client-preserved
loop-client-preserved g c =
    let clients = c.loop-client.client-items in
    let at = c.loop-client.client-index in
    let within : at < length clients = omega (arith, c.loop-client-test.true, c.loop-client.auto.client-items) in record {
      done = done_set (λ x y. y ≡ told c.args.conn c.args.readable c.args.writable c.args.closing x) c.args.clients.now.items clients at c.client-item.result
          c.tell.new.client within c.tell.ensures c.loop-client.invariant.done;
    }

pub returns-clause-told : goal.returns-clause-told
returns-clause-told g c =
    let old = c.args.clients.now.items in
    let clients = c.loop-client.client-items in
    let len : c.args.clients.now.len ≡ length old = search rules in
    let same : length clients ≡ length old = search rules in
    let le : length clients ≤ c.loop-client.client-index = omega (arith, c.loop-client-test.false, c.loop-client.auto.client-items) in
    let all = told_all c.args.conn c.args.readable c.args.writable c.args.closing old clients _ c.loop-client.client-index le
    (whole_clients old clients c.args.clients.now.len len same) c.loop-client.invariant.done in
    all.0

pub returns-clause-ids : goal.returns-clause-ids
returns-clause-ids g c =
    let old = c.args.clients.now.items in
    let clients = c.loop-client.client-items in
    let len : c.args.clients.now.len ≡ length old = search rules in
    let same : length clients ≡ length old = search rules in
    let le : length clients ≤ c.loop-client.client-index = omega (arith, c.loop-client-test.false, c.loop-client.auto.client-items) in
    let all = told_all c.args.conn c.args.readable c.args.writable c.args.closing old clients _ c.loop-client.client-index le
    (whole_clients old clients c.args.clients.now.len len same) c.loop-client.invariant.done in
    all.1

pub returns-clause-woken : goal.returns-clause-woken
returns-clause-woken g c =
    let old = c.args.clients.now.items in
    let clients = c.loop-client.client-items in
    let len : c.args.clients.now.len ≡ length old = search rules in
    let same : length clients ≡ length old = search rules in
    let le : length clients ≤ c.loop-client.client-index = omega (arith, c.loop-client-test.false, c.loop-client.auto.client-items) in
    let all = told_all c.args.conn c.args.readable c.args.writable c.args.closing old clients _ c.loop-client.client-index le
    (whole_clients old clients c.args.clients.now.len len same) c.loop-client.invariant.done in
    all.2
