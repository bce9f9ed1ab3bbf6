-- One more is ended.
use Rattle.std.proofs.Common.{rules, ◌≡◌, ◌<◌, ◌≤◌, length, arith}
use Rattle.mi_clients.specs.Ending.{IsEnded}
use Rattle.mi_clients.proofs.ClientsLemmas.{done_set, whole_clients}
use Rattle.mi_clients.proofs.EndingLemmas.{ended_all, ended_ids}
use Rattle.mi_clients.proofs.ending.end_one.Goals as goal

pub loop-client-init : goal.loop-client-init
loop-client-init g c = record { done = c.deref_mut-client-items.ensures.value }

pub loop-client-preserved : goal.loop-client-preserved
loop-client-preserved g c =
    let clients = c.loop-client.client-items in
    let at = c.loop-client.client-index in
    let within : at < length clients = omega (arith, c.loop-client-test.true, c.loop-client.auto.client-items) in record {
      done = done_set (λ x y. IsEnded c.args.conn x y) c.args.clients.now.items clients at c.client-item.result c.end.new.self within c.end.ensures
          c.loop-client.invariant.done;
    }

pub returns-clause-ended : goal.returns-clause-ended
returns-clause-ended g c =
    let old = c.args.clients.now.items in
    let clients = c.loop-client.client-items in
    let len : c.args.clients.now.len ≡ length old = search rules in
    let same : length clients ≡ length old = search rules in
    let le : length clients ≤ c.loop-client.client-index = omega (arith, c.loop-client-test.false, c.loop-client.auto.client-items) in
    ended_all c.args.conn old clients _ c.loop-client.client-index le (whole_clients old clients c.args.clients.now.len len same) c.loop-client.invariant.done

pub returns-clause-ids : goal.returns-clause-ids
returns-clause-ids g c = ended_ids c.args.conn c.args.clients.now.items _ (returns-clause-ended g c)
